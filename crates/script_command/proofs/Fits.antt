-- The values of a form that is found fit the fields of its command.
-- Assumes nothing.
use Prim.Native.Nat.{ℕ, ◌/◌, ◌%◌, ◌^◌, ◌≤◌, ◌<◌}
use mathlib.Core.Path.{◌≡◌, sym, ap, ◌∙◌, subst}
use mathlib.Core.List.{List, [], ◌∷◌}
use Rattle.std.specs.Prelude.{Some, Result, Ok, Err}
use Rattle.std.specs.Result.{result_ok}
use Rattle.std.proofs.lemmas.Option.{same_Some}
use Rattle.std.proofs.Math.Logic.{⊎_elim}
use native.Mathlib.Nat.{div-lt_iff_lt-mul}
use lib.Dec.{lit<}
use borrow.Author.Tests.{le-leb}
use Rattle.script_form.specs.Form.{first, rest, block_digits}
use Rattle.script_form.specs.scanner.Scan.{push, word_at, begin, scan, whole}
use Rattle.script_command.specs.scanner.Reading.{IsMove, front, bench_form, read_form, load_form, forward_form, back_form}
use Rattle.script_form.specs.declared.Values.{Values}
use Rattle.script_form.specs.declared.Fields.{Fields}
use Rattle.script_form.proofs.Blocks.{digits_fit}
use Rattle.script_form.proofs.Steps.{pow_pos}
use Rattle.script_form.proofs.Scans.{scan_sound, whole_sound, store, zeros}

-- fields that are taken are those of a form that is met
pub met : (f : Fields) (r s : Result Fields Fields) → Some f ≡ result_ok r → r ≡ s → Ok f ≡ s
met f (Ok g) s e h = ap Ok (same_Some f g e) ∙ h
met f (Err g) s e h = cc

module _ (line : List ℕ) (offset : ℕ) (f : Fields) where
  -- a record's number
  pub number_fits : Ok f ≡ scan (block_digits 0) line (begin offset) front → word_at f.values 0 ≤ 4294967295
  unfolding push
  number_fits e = let k = scan_sound (block_digits 0) line (begin offset) f front (sym e) in subst (◌≤ 4294967295) (sym (ap (λ (x : Values). word_at x 0) k.stored)) k.range.0

  word_fits : (x : Values) (i n : ℕ) → f.values ≡ x → word_at x i ≤ n → word_at f.values i ≤ n
  word_fits x i n e h = subst (◌≤ n) (sym (ap (λ (y : Values). word_at y i) e)) h

  pub bench_fits : (d : ℕ) → Ok f ≡ whole d line offset bench_form → word_at f.values 0 ≤ 255
  unfolding push
  bench_fits d e = let k = whole_sound d line offset bench_form f (sym e) in word_fits _ 0 255 k.stored k.range.0

  pub read_fits : (d : ℕ) → Ok f ≡ whole d line offset read_form → word_at f.values 0 ≤ 255
  unfolding push
  read_fits d e = let k = whole_sound d line offset read_form f (sym e) in word_fits _ 0 255 k.stored k.range.0

  forward_fits : (d : ℕ) → Ok f ≡ whole d line offset forward_form → word_at f.values 1 ≤ 255
  unfolding push
  forward_fits d e = let k = whole_sound d line offset forward_form f (sym e) in word_fits _ 1 255 k.stored k.range.1.0

  back_fits : (d : ℕ) → Ok f ≡ whole d line offset back_form → word_at f.values 1 ≤ 255
  unfolding push
  back_fits d e = let k = whole_sound d line offset back_form f (sym e) in word_fits _ 1 255 k.stored k.range.1.0

  pub move_fits : (d : ℕ) (form : List ℕ) → IsMove form → Ok f ≡ whole d line offset form → word_at f.values 1 ≤ 255
  move_fits d form is_move e =
      ⊎_elim (λ (g : form ≡ forward_form). forward_fits d (e ∙ ap (whole d line offset) g)) (λ (g : form ≡ back_form). back_fits d (e ∙ ap (whole d line offset) g)) is_move

-- the values of a load's line
abbrev pub key_in : List ℕ → ℕ
key_in vs = first (rest (rest vs))

abbrev pub load_values : List ℕ → Values
load_values vs = record { words = first vs ∷ first (rest vs) ∷ key_in vs / 16 ^ 16 ∷ key_in vs % 16 ^ 16 ∷ first (rest (rest (rest vs))) ∷ 0 ∷ 0 ∷ 0 ∷ []; count = 5 }

pub load_stored : (d : ℕ) (vs : List ℕ) → d ≤ 16 → store d load_form vs zeros ≡ load_values vs
unfolding push
load_stored d vs h = rw (le-leb d 16 h)

pub high_fits : (w : ℕ) → w < 16 ^ 20 → w / 16 ^ 16 < 2 ^ 16
high_fits w h = (div-lt_iff_lt-mul {k = 16 ^ 16} {x = w} {y = 2 ^ 16} (pow_pos 16 16 (lit< tt))).1 h

pub record LoadFits (x : Values) : Type 0 where
  pub lane : word_at x 0 ≤ 255
  pub position : word_at x 1 ≤ 255
  pub high : word_at x 2 < 2 ^ 16

pub load_fits : (v : ℕ) (line : List ℕ) (offset : ℕ) (f : Fields) → Ok f ≡ whole (block_digits v) line offset load_form → LoadFits f.values
load_fits v line offset f e =
    let k = whole_sound (block_digits v) line offset load_form f (sym e) in
    let s : load_values k.values ≡ f.values = sym (k.stored ∙ load_stored (block_digits v) k.values (digits_fit v)) in
    subst LoadFits s (record { lane = k.range.0; position = k.range.1.0; high = high_fits (key_in k.values) k.range.1.1.0 })
