-- A line is taken for a command exactly when it is that command's; no command's line is too long.
-- Assumes nothing.
use Prim.Native.Nat.{ℕ, ◌+◌, ◌/◌, ◌%◌, ◌^◌, ◌≤◌, ◌<◌}
use mathlib.Core.Path.{◌≡◌, refl, sym, ap, ◌∙◌, subst}
use mathlib.Core.Bool.{Bool, true, false}
use mathlib.Core.List.{List, [], ◌∷◌, ◌++◌, append_assoc}
use native.Mathlib.Nat.{mod-lt, lt_of_le_of_lt, lt_irrefl, div-eq_of_lt, mod-eq_of_lt, mul-add-div_right, mul-add-mod_self_right, div-add-mod', add-zero}
use native.Mathlib.Omega.{arith}
use lib.Dec.{T, eqb, ltb, lit<, lit≤}
use lib.ListN.{length, drop, get_or}
use lib.Seq.{get_or-drop}
use borrow.Author.Tests.{ltb-false, le-ltb, eq-eqb, ne_eqb}
use Rattle.std.specs.Prelude.{Option, Some, None, Result, Ok, Err}
use Rattle.std.specs.Option.{option_map, option_and_then}
use Rattle.std.specs.Result.{result_ok}
use Rattle.std.proofs.lemmas.Option.{same_Some}
use Rattle.katan.specs.Bit.{pick}
use Rattle.katan.specs.Key.{key_number}
use Rattle.katan.specs.Checks.{value, variant_check}
use Rattle.katan.proofs.Variants.{is_variant, variant_sound}
use Rattle.katan.specs.declared.Key.{Key}
use Rattle.script_form.specs.Digits.{decimal}
use Rattle.script_form.specs.Form.{first, rest, fill, FieldsFit}
use Rattle.script_command.specs.Written.{form_of, fields_of, line_of, CommandFits, line_length}
use Rattle.script_form.specs.Form.{block_digits}
use Rattle.script_command.specs.Answer.{line_outcome, command_answer}
use Rattle.script_command.specs.Reads.{Open, Stands, KeyHeld, IsLine, Reads}
use Rattle.script_form.specs.scanner.Scan.{value_of, push, word_at, begin, scan, whole}
use Rattle.script_command.specs.scanner.Reading.{made, bench_in, read_in, load_in, move_in, forward_in, back_in, clear_in, record_as, record_by, record_in, command_in, front, bench_form, read_form, load_form, forward_form, back_form, clear_form}
use Rattle.script_command.specs.declared.Command.{Command}
use Rattle.script_command.specs.declared.Command.TheVariants.{Bench, Read, Load, Forward, Back, Clear}
use Rattle.script_form.specs.declared.Values.{Values}
use Rattle.script_form.specs.declared.Fields.{Fields}
use Rattle.script_form.proofs.Blocks.{digits_fit}
use Rattle.script_form.proofs.Steps.{value_of_decimal, pow_pos}
use Rattle.script_form.proofs.Scans.{Scanned, at, after_text, ready, room, store, zeros, scan_sound, scan_complete, whole_sound, whole_complete, length-fill}
use Rattle.script_command.proofs.Fits.{key_in, load_stored}

-- ---- a key and its number

key-number : (w : ℕ) → key_number (record { low = w % 16 ^ 16; high = w / 16 ^ 16 }) ≡ w
key-number w = div-add-mod' w (16 ^ 16)

number_key : (key : Key) → key.low < 2 ^ 64 → record { low = key_number key % 16 ^ 16; high = key_number key / 16 ^ 16 } ≡ key
number_key key h =
    let high : key_number key / 16 ^ 16 ≡ key.high = mul-add-div_right {m = 16 ^ 16} (pow_pos 16 16 (lit< tt)) key.high key.low ∙ rw (div-eq_of_lt {m = 16 ^ 16} h) (add-zero key.high) in
    let low : key_number key % 16 ^ 16 ≡ key.low = mul-add-mod_self_right key.high (16 ^ 16) key.low ∙ mod-eq_of_lt h in
    λ i. record { low = low i; high = high i }

-- ---- sound

-- a line that is read by a form to its end: what it is, and what is made of its values
record ReadBy (A : Type 0) (d : ℕ) (line : List ℕ) (offset : ℕ) (form : List ℕ) (make : Values → A) (c : A) : Type 0 where
  values : List ℕ
  text : drop offset line ≡ fill d form values
  range : FieldsFit d form values
  made : make (store d form values zeros) ≡ c

read_by : (A : Type 0) (d : ℕ) (line : List ℕ) (offset : ℕ) (form : List ℕ) (make : Values → A) (c : A) → made make (whole d line offset form) ≡ Some c → ReadBy A d line offset form make c
read_by A d line offset form make c e = go (whole d line offset form) refl e
  where
    go : (f : Result Fields Fields) → whole d line offset form ≡ f → made make f ≡ Some c → ReadBy A d line offset form make c
    go (Err f) g h = cc
    go (Ok f) g h =
        let k = whole_sound d line offset form f g in
        record { values = k.values; text = k.text; range = k.range; made = sym (ap make k.stored) ∙ same_Some (make f.values) c h }

-- a record line's beginning: its number
abbrev pub headed : ℕ → List ℕ → List ℕ
headed n body = 40 ∷ (decimal n ++ (32 ∷ 40 ∷ body))

front_join : (vs body : List ℕ) → fill (block_digits 0) front vs ++ body ≡ headed (first vs) body
front_join vs body = ap (40 ∷◌) (append_assoc (decimal (first vs)) (32 ∷ 40 ∷ []) body)

record Headed (line : List ℕ) (offset n : ℕ) : Type 0 where
  head : line ≡ headed n (drop offset line)
  small : n ≤ 4294967295

head_sound : (line : List ℕ) (f : Fields) → Scanned (block_digits 0) line (begin 0) f front → Headed line f.offset (word_at f.values 0)
unfolding push
head_sound line f k =
    let n : first k.values ≡ word_at f.values 0 = sym (ap (λ (x : Values). word_at x 0) k.stored) in
    record {
      head = k.text ∙ front_join k.values (drop f.offset line) ∙ ap (λ (m : ℕ). headed m (drop f.offset line)) n;
      small = subst (◌≤ 4294967295) n k.range.0;
    }

module _ (v : ℕ) (line : List ℕ) (short : length line ≤ line_length) where
  abbrev d : ℕ
  d = block_digits v

  bench_sound : (c : Command) → bench_in line ≡ Some c → IsLine v line c
  unfolding bench_in push
  bench_sound c e =
      let k = read_by Command (block_digits 0) line 0 bench_form (λ (x : Values). Bench (word_at x 0)) c e in
      subst (IsLine v line) k.made (record { text = k.text; fits = k.range; key = tt; short = short; stands = tt })

  module _ (is_open : Open v) where
    read_sound : (c : Command) → read_in line ≡ Some c → IsLine v line c
    unfolding read_in push
    read_sound c e =
        let k = read_by Command (block_digits 0) line 0 read_form (λ (x : Values). Read (word_at x 0)) c e in
        subst (IsLine v line) k.made (record { text = k.text; fits = k.range; key = tt; short = short; stands = is_open })

    module _ (offset n : ℕ) (h : Headed line offset n) (c : Command) where
      -- the whole line, where the rest of it is known
      joined : (body : List ℕ) → drop offset line ≡ body → line ≡ headed n body
      joined body e = h.head ∙ ap (headed n) e

      load_sound : load_in v n line offset ≡ Some c → IsLine v line c
      unfolding load_in
      load_sound e =
          let make : Values → Command = λ (x : Values). Load n (word_at x 0) (word_at x 1) (record { low = word_at x 3; high = word_at x 2 }) (word_at x 4) in
          let k = read_by Command d line offset load_form make c e in
          let ws = k.values in
          let w : key_in ws ≡ key_number (record { low = key_in ws % 16 ^ 16; high = key_in ws / 16 ^ 16 }) = sym (key-number (key_in ws)) in
          let last = first (rest (rest (rest ws))) in
          subst (IsLine v line) (sym (ap make (load_stored d ws (digits_fit v))) ∙ k.made) (record {
            text = joined (fill d load_form ws) k.text ∙ ap (λ (x : ℕ). headed n (fill d load_form (first ws ∷ first (rest ws) ∷ x ∷ last ∷ []))) w;
            fits = (h.small, (k.range.0, (k.range.1.0, (subst (◌< 16 ^ 20) w k.range.1.1.0, (k.range.1.1.1.0, tt)))));
            key = mod-lt (key_in ws) (pow_pos 16 16 (lit< tt));
            short = short;
            stands = is_open;
          })

      -- a move's command, and how its mask and count were read
      move_sound : (form : List ℕ) (make : ℕ × ℕ → Command) → option_map make (move_in form line offset) ≡ Some c
          → ReadBy Command (block_digits 0) line offset form (λ (x : Values). make (word_at x 0, word_at x 1)) c
      unfolding move_in
      move_sound form make e = read_by Command (block_digits 0) line offset form (λ (x : Values). make (word_at x 0, word_at x 1)) c (sym (go (whole (block_digits 0) line offset form)) ∙ e)
        where
          go : (f : Result Fields Fields) → option_map make (made (λ (x : Values). (word_at x 0, word_at x 1)) f) ≡ made (λ (x : Values). make (word_at x 0, word_at x 1)) f
          go (Err f) = refl
          go (Ok f) = refl

      forward_sound : forward_in n line offset ≡ Some c → IsLine v line c
      unfolding push
      forward_sound e =
          let k = move_sound forward_form (λ (x : ℕ × ℕ). Forward n x.0 x.1) e in
          subst (IsLine v line) k.made (record { text = joined _ k.text; fits = (h.small, k.range); key = tt; short = short; stands = is_open })

      back_sound : back_in n line offset ≡ Some c → IsLine v line c
      unfolding push
      back_sound e =
          let k = move_sound back_form (λ (x : ℕ × ℕ). Back n x.0 x.1) e in
          subst (IsLine v line) k.made (record { text = joined _ k.text; fits = (h.small, k.range); key = tt; short = short; stands = is_open })

      clear_sound : clear_in n line offset ≡ Some c → IsLine v line c
      unfolding clear_in push
      clear_sound e =
          let k = read_by Command (block_digits 0) line offset clear_form (λ (x : Values). Clear n (word_at x 0)) c e in
          subst (IsLine v line) k.made (record { text = joined _ k.text; fits = (h.small, k.range); key = tt; short = short; stands = is_open })

      record_sound : (x : ℕ) → record_as v line offset n x ≡ Some c → IsLine v line c
      record_sound x e = go (eqb x 108) (eqb x 102) (eqb x 98) (eqb x 99) e
        where
          go : (a b s t : Bool) → pick a (load_in v n line offset) (pick b (forward_in n line offset) (pick s (back_in n line offset) (pick t (clear_in n line offset) None))) ≡ Some c → IsLine v line c
          go true b s t e = load_sound e
          go false true s t e = forward_sound e
          go false false true t e = back_sound e
          go false false false true e = clear_sound e
          go false false false false e = cc

    numbered_sound : (c : Command) → record_in v line ≡ Some c → IsLine v line c
    unfolding record_in
    numbered_sound c e = go (scan (block_digits 0) line (begin 0) front) refl e
      where
        go : (f : Result Fields Fields) → scan (block_digits 0) line (begin 0) front ≡ f → option_and_then (record_by v line) (result_ok f) ≡ Some c → IsLine v line c
        go (Err f) g k = cc
        go (Ok f) g k = record_sound f.offset (word_at f.values 0) (head_sound line f (scan_sound (block_digits 0) line (begin 0) f front g)) c (get_or line f.offset 0) k

sound : (v : ℕ) (line : List ℕ) (c : Command) → command_in v line ≡ Some c → IsLine v line c
unfolding command_in
sound v line c e = go (ltb line_length (length line)) (eqb (get_or line 1 0) 98) (variant_check v).fault (eqb (get_or line 1 0) 114) refl refl e
  where
    go : (a b s t : Bool) → ltb line_length (length line) ≡ a → (variant_check v).fault ≡ s
        → pick a None (pick b (bench_in line) (pick s None (pick t (read_in line) (record_in v line)))) ≡ Some c
        → IsLine v line c
    go true b s t f g e = cc
    go false true s t f g e = bench_sound v line (ltb-false line_length (length line) f) c e
    go false false true t f g e = cc
    go false false false true f g e = read_sound v line (ltb-false line_length (length line) f) (is_variant v g) c e
    go false false false false f g e = numbered_sound v line (ltb-false line_length (length line) f) (is_variant v g) c e

-- ---- what the letter after the first parenthesis chooses

module _ (v : ℕ) (line : List ℕ) (short : length line ≤ line_length) where
  abbrev second : ℕ
  second = get_or line 1 0

  chosen_bench : second ≡ 98 → command_in v line ≡ bench_in line
  unfolding command_in
  chosen_bench e = rw (le-ltb line_length (length line) short, eq-eqb second 98 e)

  module _ (n : second ≡ 98 → ⊥) (f : (variant_check v).fault ≡ false) where
    chosen_read : second ≡ 114 → command_in v line ≡ read_in line
    unfolding command_in
    chosen_read e = rw (le-ltb line_length (length line) short, ne_eqb second 98 n, f, eq-eqb second 114 e)

    chosen_record : (second ≡ 114 → ⊥) → command_in v line ≡ record_in v line
    unfolding command_in
    chosen_record m = rw (le-ltb line_length (length line) short, ne_eqb second 98 n, f, ne_eqb second 114 m)

-- ---- complete

made_complete : (A : Type 0) (d : ℕ) (line : List ℕ) (offset : ℕ) (form vs : List ℕ) (make : Values → A) → T (ready d form) → FieldsFit d form vs → drop offset line ≡ fill d form vs
    → made make (whole d line offset form) ≡ Some (make (store d form vs zeros))
made_complete A d line offset form vs make r h e = ap (made make) (whole_complete d line offset form vs r h e)

bench_complete : (v x : ℕ) (line : List ℕ) → IsLine v line (Bench x) → command_in v line ≡ Some (Bench x)
unfolding bench_in value_of push
bench_complete v x line k =
    let second : get_or line 1 0 ≡ 98 = ap (λ (l : List ℕ). get_or l 1 0) k.text in
    chosen_bench v line k.short second ∙ made_complete Command (block_digits 0) line 0 bench_form (x ∷ []) (λ (y : Values). Bench (word_at y 0)) tt k.fits k.text

read_complete : (v x : ℕ) (line : List ℕ) → IsLine v line (Read x) → command_in v line ≡ Some (Read x)
unfolding read_in value_of push
read_complete v x line k =
    let second : get_or line 1 0 ≡ 114 = ap (λ (l : List ℕ). get_or l 1 0) k.text in
    chosen_read v line k.short (λ e. omega (arith, e, second)) (variant_sound v k.stands.0 k.stands.1) second
    ∙ made_complete Command (block_digits 0) line 0 read_form (x ∷ []) (λ (y : Values). Read (word_at y 0)) tt k.fits k.text

-- a record line is read by the form that the letter after its number chooses
record Chosen (v : ℕ) (line : List ℕ) (n : ℕ) (body : List ℕ) : Type 0 where
  offset : ℕ
  from : drop offset line ≡ body
  chosen : command_in v line ≡ record_as v line offset n (get_or body 0 0)

no_letter : (line body : List ℕ) (n p : ℕ) → line ≡ headed n body → 10 ≤ value_of p → get_or line 1 0 ≡ p → ⊥
no_letter line body n p e h g =
    lt_irrefl 10 (lt_of_le_of_lt h (subst (λ (x : ℕ). value_of x < 10) (sym (ap (λ (l : List ℕ). get_or l 1 0) e) ∙ g) (value_of_decimal n (32 ∷ 40 ∷ body))))

choose : (v : ℕ) (line : List ℕ) (n : ℕ) (body : List ℕ) → length line ≤ line_length → Open v → n ≤ 4294967295 → line ≡ headed n body → Chosen v line n body
unfolding record_in value_of push
choose v line n body short is_open small e =
    let text : line ≡ fill (block_digits 0) front (n ∷ []) ++ body = e ∙ sym (front_join (n ∷ []) body) in
    let o = 0 + length (fill (block_digits 0) front (n ∷ [])) in
    let f : scan (block_digits 0) line (begin 0) front ≡ Ok (at (store (block_digits 0) front (n ∷ []) zeros) o) = scan_complete (block_digits 0) line body zeros 0 front (n ∷ []) tt (small, tt) text in
    let past : drop o line ≡ body = after_text line (fill (block_digits 0) front (n ∷ [])) body 0 _ text refl in
    let letter : get_or line o 0 ≡ get_or body 0 0 = ap (λ (i : ℕ). get_or line i 0) (sym (add-zero o)) ∙ sym (get_or-drop o line 0 0) ∙ ap (λ (l : List ℕ). get_or l 0 0) past in
    record {
      offset = o;
      from = past;
      chosen =
          chosen_record v line short (no_letter line body n 98 e (lit≤ tt)) (variant_sound v is_open.0 is_open.1) (no_letter line body n 114 e (lit≤ tt))
          ∙ ap (λ (r : Result Fields Fields). option_and_then (record_by v line) (result_ok r)) f
          ∙ ap (record_as v line o n) letter;
    }

complete : (v : ℕ) (line : List ℕ) (c : Command) → IsLine v line c → command_in v line ≡ Some c
unfolding load_in move_in clear_in value_of push
complete v line (Bench x) k = bench_complete v x line k
complete v line (Read x) k = read_complete v x line k
complete v line (Load n lane position key block) k =
    let d = block_digits v in
    let vs = lane ∷ position ∷ key_number key ∷ block ∷ [] in
    let make : Values → Command = λ (x : Values). Load n (word_at x 0) (word_at x 1) (record { low = word_at x 3; high = word_at x 2 }) (word_at x 4) in
    let w = choose v line n (fill d load_form vs) k.short k.stands k.fits.0 k.text in
    w.chosen ∙ made_complete Command d line w.offset load_form vs make tt k.fits.1 w.from ∙ ap (λ (x : Values). Some (make x)) (load_stored d vs (digits_fit v))
    ∙ ap (λ (x : Key). Some (Load n lane position x block)) (number_key key k.key)
complete v line (Forward n mask count) k =
    let vs = mask ∷ count ∷ [] in
    let w = choose v line n (fill (block_digits 0) forward_form vs) k.short k.stands k.fits.0 k.text in
    w.chosen ∙ ap (option_map (λ (x : ℕ × ℕ). Forward n x.0 x.1)) (made_complete (ℕ × ℕ) (block_digits 0) line w.offset forward_form vs (λ (x : Values). (word_at x 0, word_at x 1)) tt k.fits.1 w.from)
complete v line (Back n mask count) k =
    let vs = mask ∷ count ∷ [] in
    let w = choose v line n (fill (block_digits 0) back_form vs) k.short k.stands k.fits.0 k.text in
    w.chosen ∙ ap (option_map (λ (x : ℕ × ℕ). Back n x.0 x.1)) (made_complete (ℕ × ℕ) (block_digits 0) line w.offset back_form vs (λ (x : Values). (word_at x 0, word_at x 1)) tt k.fits.1 w.from)
complete v line (Clear n mask) k =
    let vs = mask ∷ [] in
    let w = choose v line n (fill (block_digits 0) clear_form vs) k.short k.stands k.fits.0 k.text in
    w.chosen ∙ made_complete Command (block_digits 0) line w.offset clear_form vs (λ (x : Values). Clear n (word_at x 0)) tt k.fits.1 w.from

-- ---- the answer

answered : (l : Option Command) (c : Command) → line_outcome l ≡ value c → l ≡ Some c
answered (Some a) c e = cc
answered None c e = cc

-- THEOREM: a line is answered with a command exactly when it is that command's, and else refused
pub reads : (v : ℕ) (line : List ℕ) → Reads v line (command_answer v line)
unfolding command_answer
reads v line =
    record {
      sound = λ c e. sound v line c (answered (command_in v line) c e);
      complete = λ c k. ap line_outcome (complete v line c k);
      broken = λ h. ap line_outcome (none (command_in v line) refl h);
    }
  where
    none : (l : Option Command) → command_in v line ≡ l → ((c : Command) → IsLine v line c → ⊥) → l ≡ None
    none (Some c) e h = absurd (h c (sound v line c e))
    none None e h = refl

-- ---- no command's line is too long

room_short : (d : ℕ) → d ≤ 16 → (c : Command) → T (ready d (form_of c)) × (room d (form_of c) ≤ line_length)
unfolding value_of
room_short d h (Bench x) = (tt, lit≤ tt)
room_short d h (Read x) = (tt, lit≤ tt)
room_short d h (Load n lane position key block) = (tt, omega arith)
room_short d h (Forward n mask count) = (tt, lit≤ tt)
room_short d h (Back n mask count) = (tt, lit≤ tt)
room_short d h (Clear n mask) = (tt, lit≤ tt)

pub line_short : (d : ℕ) (c : Command) → d ≤ 16 → CommandFits d c → length (line_of d c) ≤ line_length
line_short d c h f =
    let r = room_short d h c in
    omega (arith, length-fill d (form_of c) (fields_of c) r.0 f, r.1)

-- so nothing right is refused
pub takes_line : (v : ℕ) (c : Command) → CommandFits (block_digits v) c → KeyHeld c → Stands v c → command_answer v (line_of (block_digits v) c) ≡ value c
takes_line v c f k s = (reads v (line_of (block_digits v) c)).complete c (record { text = refl; fits = f; key = k; short = line_short (block_digits v) c (digits_fit v) f; stands = s })
