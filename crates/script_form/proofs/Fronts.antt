-- The reading definitions at the front of a text, as the code meets them.
-- Assumes nothing.
use Prim.Native.Nat.{ℕ, ◌+◌, ◌≤◌, ◌<◌}
use mathlib.Core.Path.{◌≡◌, refl}
use mathlib.Core.Bool.{Bool, true, false}
use mathlib.Core.List.{List, [], ◌∷◌}
use Rattle.std.specs.Prelude.{Some, None, Result, Ok}
use Rattle.std.specs.Option.{option_map, option_and_then}
use Rattle.std.specs.List.{slice_get}
use lib.Dec.{eqb}
use lib.ListN.{length, drop, get_or, drop_of_length-le}
use lib.Seq.{drop-cons}
use native.Mathlib.Numerals.{add-one}
use borrow.Author.Tests.{le-leb, eqb-true}
use Rattle.katan.specs.Bit.{pick}
use Rattle.script_form.specs.scanner.Scan.{run_in, exactly, word_of, words_of, decimal_of, decimal_in, digits_in, letter_in, and_then, advance, scan}
use Rattle.script_form.specs.declared.Fields.{Fields}
use Rattle.script_form.specs.declared.digits.Run.{Run}
use Rattle.script_form.specs.declared.pieces.Step.TheVariants.{Letter, Field, Words}

pub letter_front : (p : ℕ) (s : List ℕ) → letter_in p s ≡ option_and_then (λ (x : ℕ). pick (eqb x p) (Some Letter) None) (slice_get s 0)
unfolding letter_in
letter_front p [] = refl
letter_front p (x ∷ s) = refl

pub decimal_front : (max : ℕ) (s : List ℕ) → decimal_in max s ≡ option_and_then (λ (x : ℕ). decimal_of max x (run_in 10 10 0 0 s)) (slice_get s 0)
unfolding decimal_in
decimal_front max [] = refl
decimal_front max (x ∷ s) = refl

word_exact : (k : ℕ) (r : Run) → word_of k r ≡ option_map (λ (v : ℕ). Field v k) (exactly k r)
word_exact k r = go (eqb r.count k) refl
  where
    go : (t : Bool) → eqb r.count k ≡ t → pick t (Some (Field r.value r.count)) None ≡ option_map (λ (v : ℕ). Field v k) (pick t (Some r.value) None)
    go true e = rw (eqb-true r.count k e)
    go false e = refl

pub hex_front : (k : ℕ) (s : List ℕ) → k ≤ 16 → digits_in k s ≡ option_map (λ (v : ℕ). Field v k) (exactly k (run_in 16 k 0 0 s))
unfolding digits_in
hex_front k s h = rw (le-leb k 16 h) (word_exact k (run_in 16 k 0 0 s))

words_exact : (k : ℕ) (r q : Run) → words_of k r q ≡ option_and_then (λ (h : ℕ). option_map (λ (l : ℕ). Words h l (k + 16)) (exactly 16 q)) (exactly k r)
words_exact k r q = go (eqb r.count k) (eqb q.count 16)
  where
    go : (t u : Bool) → pick t (pick u (Some (Words r.value q.value (k + 16))) None) None
        ≡ option_and_then (λ (h : ℕ). option_map (λ (l : ℕ). Words h l (k + 16)) (pick u (Some q.value) None)) (pick t (Some r.value) None)
    go true true = refl
    go true false = refl
    go false true = refl
    go false false = refl

pub key_front : (s : List ℕ) → digits_in 20 s ≡ option_and_then (λ (h : ℕ). option_map (λ (l : ℕ). Words h l 20) (exactly 16 (run_in 16 16 0 0 (drop 4 s)))) (exactly 4 (run_in 16 4 0 0 s))
unfolding digits_in
key_front s = words_exact 4 (run_in 16 4 0 0 s) (run_in 16 16 0 0 (drop 4 s))

-- the loop over a form
module _ (d : ℕ) (line : List ℕ) (f : Fields) (form : List ℕ) (i : ℕ) where
  pub scan_end : length form ≤ i → scan d line f (drop i form) ≡ Ok f
  unfolding scan
  scan_end h = rw (drop_of_length-le form h)

  module _ (h : i < length form) (next : Result Fields Fields) (e : next ≡ advance d line (get_or form i 0) f) where
    pub scan_next : scan d line f (drop i form) ≡ and_then (λ (g : Fields). scan d line g (drop (i + 1) form)) next
    unfolding scan
    scan_next = rw (drop-cons form i 0 h, add-one i, e)
