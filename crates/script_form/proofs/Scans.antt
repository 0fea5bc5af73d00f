-- A form is scanned exactly where the line is the form filled with the values found.
-- Assumes nothing.
use Prim.Native.Nat.{ℕ, suc, ◌+◌, ◌*◌, ◌-◌, ◌/◌, ◌%◌, ◌^◌, ◌≤◌, ◌<◌}
use mathlib.Core.Path.{◌≡◌, refl, sym, ap, ◌∙◌, subst}
use mathlib.Core.Bool.{Bool, true, false}
use mathlib.Core.List.{List, [], ◌∷◌, ◌++◌, append_assoc, append-nil}
use Rattle.std.specs.Prelude.{Option, Some, None, Result, Ok, Err}
use Rattle.std.specs.Option.{option_map, ok_or}
use native.Mathlib.Nat.{add-zero, div-eq_of_lt, mod-eq_of_lt, mul-add-div_right, mul-add-mod_self_right}
use native.Mathlib.Omega.{arith}
use lib.Dec.{T, ltb, leb, eqb, leb→le}
use lib.ListN.{length, drop, length-append, length-drop, drop_of_length-le}
use lib.Seq.{drop-drop, drop_at}
use borrow.Author.Tests.{leb-true, le-leb}
use Rattle.katan.specs.Bit.{pick}
use Rattle.katan.proofs.Tables.{both, both_left, both_right}
use Rattle.script_form.specs.Digits.{decimal, hex}
use Rattle.script_form.specs.Form.{Piece, letter, number, digits, piece_of, first, rest, fill, fill_piece, FieldsFit, fits_piece}
use Rattle.script_form.specs.scanner.Scan.{value_of, run_in, decimal_in, digits_in, letter_in, piece_in, push, begin, after, and_then, advance, scan, ended, whole}
use Rattle.script_form.specs.declared.pieces.Step.{Step}
use Rattle.script_form.specs.declared.pieces.Step.TheVariants.{Letter, Field, Words}
use Rattle.script_form.specs.declared.Values.{Values}
use Rattle.script_form.specs.declared.Fields.{Fields}
use Rattle.script_form.proofs.Runs.{Halts}
use Rattle.script_form.proofs.Lengths.{length-fixed}
use Rattle.script_form.proofs.Steps.{length-decimal, pow_pos, decimal_sound, digits_sound, words_sound, letter_sound, decimal_complete, digits_complete, letter_complete}

-- ---- a piece answers with its own kind

abbrev Decimal : Option Step → Type 0
Decimal None = Unit {0}
Decimal (Some Letter) = ⊥
Decimal (Some (Field v n)) = Unit {0}
Decimal (Some (Words h l n)) = ⊥

abbrev Digital : Option Step → Type 0
Digital None = Unit {0}
Digital (Some Letter) = ⊥
Digital (Some (Field v n)) = Unit {0}
Digital (Some (Words h l n)) = Unit {0}

abbrev Lettered : Option Step → Type 0
Lettered None = Unit {0}
Lettered (Some Letter) = Unit {0}
Lettered (Some (Field v n)) = ⊥
Lettered (Some (Words h l n)) = ⊥

either : (P : Option Step → Type 0) (t : Bool) (a b : Option Step) → P a → P b → P (pick t a b)
either P true a b p q = p
either P false a b p q = q

is_decimal : (max : ℕ) (s : List ℕ) → Decimal (decimal_in max s)
unfolding decimal_in
is_decimal max [] = tt
is_decimal max (x ∷ s) =
    let r = run_in 10 10 0 0 (x ∷ s) in
    either Decimal (eqb r.count 0) _ _ tt (either Decimal (ltb max r.value) _ _ tt (either Decimal (eqb r.count 1) _ _ tt (either Decimal (eqb x 48) _ _ tt tt)))

is_digital : (k : ℕ) (s : List ℕ) → Digital (digits_in k s)
unfolding digits_in
is_digital k s =
    let r = run_in 16 k 0 0 s in
    let h = run_in 16 (k - 16) 0 0 s in
    let l = run_in 16 16 0 0 (drop (k - 16) s) in
    either Digital (leb k 16) _ _ (either Digital (eqb r.count k) _ _ tt tt) (either Digital (eqb h.count (k - 16)) _ _ (either Digital (eqb l.count 16) _ _ tt tt) tt)

is_lettered : (p : ℕ) (s : List ℕ) → Lettered (letter_in p s)
unfolding letter_in
is_lettered p [] = tt
is_lettered p (x ∷ s) = either Lettered (eqb x p) _ _ tt tt

-- what a piece takes lies within the line
abbrev Inside : ℕ → Step → Type 0
Inside m Letter = 1 ≤ m
Inside m (Field v n) = n ≤ m
Inside m (Words h l n) = n ≤ m

inside_step : (q : Piece) (p : ℕ) (s : List ℕ) (st : Step) → piece_in q p s ≡ Some st → Inside (length s) st
inside_step letter p s Letter e = (letter_sound p s e).1
inside_step (number m) p s Letter e = absurd (subst Decimal e (is_decimal m s))
inside_step (digits k) p s Letter e = absurd (subst Digital e (is_digital k s))
inside_step letter p s (Field v n) e = absurd (subst Lettered e (is_lettered p s))
inside_step (number m) p s (Field v n) e = (decimal_sound m s v n e).1.inside
inside_step (digits k) p s (Field v n) e = (digits_sound k s v n e).2.inside
inside_step letter p s (Words h l n) e = absurd (subst Lettered e (is_lettered p s))
inside_step (number m) p s (Words h l n) e = absurd (subst Decimal e (is_decimal m s))
inside_step (digits k) p s (Words h l n) e = (words_sound k s h l n e).1.found.inside

pub inside : (d p offset : ℕ) (line text : List ℕ) (st found : Step) → Some st ≡ piece_in (piece_of d p) p text → text ≡ drop offset line → st ≡ found → Inside (length line - offset) found
inside d p offset line text st found e f g =
    subst (λ (m : ℕ). Inside m found) (ap length f ∙ length-drop offset line) (subst (Inside (length text)) g (inside_step (piece_of d p) p text st (sym e)))

-- ---- where the values come to stand

abbrev pub pushes : ℕ → Values → ℕ → Values
pushes k x v = pick (leb k 16) (push x v) (push (push x (v / 16 ^ 16)) (v % 16 ^ 16))

abbrev store_piece : Piece → List ℕ → Values → (List ℕ → Values → Values) → Values
store_piece letter vs x more = more vs x
store_piece (number m) vs x more = more (rest vs) (push x (first vs))
store_piece (digits k) vs x more = more (rest vs) (pushes k x (first vs))

abbrev pub store : ℕ → List ℕ → List ℕ → Values → Values
store d [] vs x = x
store d (p ∷ ps) vs x = store_piece (piece_of d p) vs x (λ (ws : List ℕ) (y : Values). store d ps ws y)

-- ---- sound

pub record Scanned (d : ℕ) (line : List ℕ) (f r : Fields) (form : List ℕ) : Type 0 where
  pub values : List ℕ
  pub text : drop f.offset line ≡ fill d form values ++ drop r.offset line
  pub range : FieldsFit d form values
  pub stored : r.values ≡ store d form values f.values

-- the same, where the first piece of the form is known
record Stepped (q : Piece) (d : ℕ) (line : List ℕ) (f r : Fields) (p : ℕ) (ps : List ℕ) : Type 0 where
  values : List ℕ
  text : drop f.offset line ≡ fill_piece q p values (λ (ws : List ℕ). fill d ps ws) ++ drop r.offset line
  range : fits_piece q values (λ (ws : List ℕ). FieldsFit d ps ws)
  stored : r.values ≡ store_piece q values f.values (λ (ws : List ℕ) (y : Values). store d ps ws y)

module _ (d : ℕ) (line : List ℕ) (f r : Fields) (p : ℕ) (ps : List ℕ) where
  abbrev s : List ℕ
  s = drop f.offset line

  -- a field's text, and then the rest
  field_text : (t : List ℕ) (n : ℕ) (ws : List ℕ) → s ≡ t ++ drop n s → drop (f.offset + n) line ≡ fill d ps ws ++ drop r.offset line → s ≡ (t ++ fill d ps ws) ++ drop r.offset line
  field_text t n ws e g = e ∙ ap (t ++◌) (drop-drop n f.offset line ∙ g) ∙ sym (append_assoc t (fill d ps ws) (drop r.offset line))

  step_sound : (q : Piece) (st : Step) → piece_in q p s ≡ Some st → Scanned d line (after f st) r ps → Stepped q d line f r p ps
  step_sound letter Letter e k =
      record { values = k.values; text = (letter_sound p s e).0 ∙ ap (p ∷◌) (drop-drop 1 f.offset line ∙ k.text); range = k.range; stored = k.stored }
  step_sound (number m) Letter e k = absurd (subst Decimal e (is_decimal m s))
  step_sound (digits j) Letter e k = absurd (subst Digital e (is_digital j s))
  step_sound letter (Field v n) e k = absurd (subst Lettered e (is_lettered p s))
  step_sound (number m) (Field v n) e k =
      let g = decimal_sound m s v n e in
      record { values = v ∷ k.values; text = field_text (decimal v) n k.values g.1.front k.text; range = (g.0, k.range); stored = k.stored }
  step_sound (digits j) (Field v n) e k =
      let g = digits_sound j s v n e in
      let x = f.values in
      record {
        values = v ∷ k.values;
        text = field_text (hex j v) n k.values g.2.front k.text;
        range = (g.1, k.range);
        stored = k.stored ∙ ap (λ (t : Bool). store d ps k.values (pick t (push x v) (push (push x (v / 16 ^ 16)) (v % 16 ^ 16)))) (sym g.0);
      }
  step_sound letter (Words h l n) e k = absurd (subst Lettered e (is_lettered p s))
  step_sound (number m) (Words h l n) e k = absurd (subst Decimal e (is_decimal m s))
  step_sound (digits j) (Words h l n) e k =
      let g = words_sound j s h l n e in
      let x = f.values in
      let v = h * 16 ^ 16 + l in
      let high : v / 16 ^ 16 ≡ h = mul-add-div_right {m = 16 ^ 16} (pow_pos 16 16 (lib.Dec.lit< tt)) h l ∙ rw (div-eq_of_lt g.1.low) (add-zero h) in
      let low : v % 16 ^ 16 ≡ l = mul-add-mod_self_right h (16 ^ 16) l ∙ mod-eq_of_lt g.1.low in
      record {
        values = v ∷ k.values;
        text = field_text (hex j v) n k.values g.1.found.front k.text;
        range = (g.1.small, k.range);
        stored = k.stored ∙ sym (λ i. store d ps k.values (push (push x (high i)) (low i))) ∙ ap (λ (t : Bool). store d ps k.values (pick t (push x v) (push (push x (v / 16 ^ 16)) (v % 16 ^ 16)))) (sym g.0);
      }

  advance_sound : (st : Step) → piece_in (piece_of d p) p s ≡ Some st → Scanned d line (after f st) r ps → Scanned d line f r (p ∷ ps)
  advance_sound st e k =
      let w = step_sound (piece_of d p) st e k in
      record { values = w.values; text = w.text; range = w.range; stored = w.stored }

  -- a form is found where its first byte is, and the rest after it
  first_sound : (st : Option Step) → piece_in (piece_of d p) p s ≡ st → ((g : Fields) → scan d line g ps ≡ Ok r → Scanned d line g r ps)
      → and_then (λ (g : Fields). scan d line g ps) (ok_or (option_map (after f) st) f) ≡ Ok r → Scanned d line f r (p ∷ ps)
  first_sound None e ih k = cc
  first_sound (Some st) e ih k = advance_sound st e (ih (after f st) k)

pub scan_sound : (d : ℕ) (line : List ℕ) (f r : Fields) (form : List ℕ) → scan d line f form ≡ Ok r → Scanned d line f r form
unfolding scan advance
scan_sound d line f r [] e = let same : f ≡ r = cc in subst (λ (g : Fields). Scanned d line f g []) same (record { values = []; text = refl; range = tt; stored = refl })
scan_sound d line f r (p ∷ ps) e =
    first_sound d line f r p ps (piece_in (piece_of d p) p (drop f.offset line)) refl (λ (g : Fields) (k : scan d line g ps ≡ Ok r). scan_sound d line g r ps k) e

-- ---- complete

abbrev halt_piece : Piece → ℕ → Bool
halt_piece letter p = leb 10 (value_of p)
halt_piece (number m) p = false
halt_piece (digits k) p = false

abbrev halting : ℕ → List ℕ → Bool
halting d [] = false
halting d (p ∷ ps) = halt_piece (piece_of d p) p

abbrev ready_piece : Piece → Bool → Bool → Bool
ready_piece letter stop more = more
ready_piece (number m) stop more = both (ltb m 10000000000) (both stop more)
ready_piece (digits k) stop more = more

-- no decimal over ten digits, and no digit right after a decimal: a test that computes at each form
abbrev pub ready : ℕ → List ℕ → Bool
ready d [] = true
ready d (p ∷ ps) = ready_piece (piece_of d p) (halting d ps) (ready d ps)

halt-piece : (q : Piece) (p : ℕ) (ws : List ℕ) (more : List ℕ → List ℕ) (t : List ℕ) → T (halt_piece q p) → Halts 10 (fill_piece q p ws more ++ t)
halt-piece letter p ws more t h = leb→le _ _ h
halt-piece (number m) p ws more t h = absurd h
halt-piece (digits k) p ws more t h = absurd h

halts_fill : (d : ℕ) (ps ws t : List ℕ) → T (halting d ps) → Halts 10 (fill d ps ws ++ t)
halts_fill d [] ws t h = absurd h
halts_fill d (p ∷ ps) ws t h = halt-piece (piece_of d p) p ws (λ (xs : List ℕ). fill d ps xs) t h

abbrev pub at : Values → ℕ → Fields
at x o = record { values = x; offset = o }

same_at : (x : Values) (o o' : ℕ) → o ≡ o' → ◌≡◌ {A = Result Fields Fields} (Ok (at x o)) (Ok (at x o'))
same_at x o o' e = ap (λ (i : ℕ). Ok (at x i)) e

-- the rest of the line after a field's text
pub after_text : (line t u : List ℕ) (o n : ℕ) → drop o line ≡ t ++ u → length t ≡ n → drop (o + n) line ≡ u
after_text line t u o n e h = sym (drop-drop n o line) ∙ ap (drop n) e ∙ drop_at t u n h

module _ (d : ℕ) (line more : List ℕ) (p : ℕ) (ps : List ℕ) (x : Values) (o : ℕ) (vs : List ℕ)
    (ih : (y : Values) (k : ℕ) (ws : List ℕ) → T (ready d ps) → FieldsFit d ps ws → drop k line ≡ fill d ps ws ++ more → scan d line (at y k) ps ≡ Ok (at (store d ps ws y) (k + length (fill d ps ws)))) where
  -- a field of n bytes is found, and the scan goes on behind it
  field_complete : (t : List ℕ) (n : ℕ) (y : Values) → length t ≡ n → drop o line ≡ (t ++ fill d ps (rest vs)) ++ more → T (ready d ps) → FieldsFit d ps (rest vs)
      → scan d line (at y (o + n)) ps ≡ Ok (at (store d ps (rest vs) y) (o + length (t ++ fill d ps (rest vs))))
  field_complete t n y e text r h =
      ih y (o + n) (rest vs) r h (after_text line t (fill d ps (rest vs) ++ more) o n (text ∙ append_assoc t (fill d ps (rest vs)) more) e)
      ∙ same_at (store d ps (rest vs) y) _ _ (omega (arith, e, length-append t (fill d ps (rest vs))))

  digits_after : (k v : ℕ) (t : Bool) → after (at x o) (pick t (Field v k) (Words (v / 16 ^ 16) (v % 16 ^ 16) k)) ≡ at (pick t (push x v) (push (push x (v / 16 ^ 16)) (v % 16 ^ 16))) (o + k)
  digits_after k v true = refl
  digits_after k v false = refl

  -- the scan goes on with what a piece finds
  abbrev going : Option Step → Result Fields Fields
  going st = and_then (λ (g : Fields). scan d line g ps) (ok_or (option_map (after (at x o)) st) (at x o))

  step_complete : (q : Piece) → T (ready_piece q (halting d ps) (ready d ps)) → fits_piece q vs (λ (ws : List ℕ). FieldsFit d ps ws)
      → drop o line ≡ fill_piece q p vs (λ (ws : List ℕ). fill d ps ws) ++ more
      → going (piece_in q p (drop o line)) ≡ Ok (at (store_piece q vs x (λ (ws : List ℕ) (y : Values). store d ps ws y)) (o + length (fill_piece q p vs (λ (ws : List ℕ). fill d ps ws))))
  step_complete letter r h text =
      ap going (ap (letter_in p) text ∙ letter_complete p (fill d ps vs ++ more))
      ∙ ih x (o + 1) vs r h (after_text line (p ∷ []) (fill d ps vs ++ more) o 1 text refl)
      ∙ same_at (store d ps vs x) _ _ (omega arith)
  step_complete (number m) r h text =
      let v = first vs in
      let r₁ = both_right (ltb m 10000000000) (both (halting d ps) (ready d ps)) r in
      let top : m < 10 ^ 10 = leb→le (suc m) 10000000000 (both_left (ltb m 10000000000) (both (halting d ps) (ready d ps)) r) in
      let stop : Halts 10 (fill d ps (rest vs) ++ more) = halts_fill d ps (rest vs) more (both_left (halting d ps) (ready d ps) r₁) in
      ap going
      (ap (decimal_in m) (text ∙ append_assoc (decimal v) (fill d ps (rest vs)) more) ∙ decimal_complete m v (fill d ps (rest vs) ++ more) h.0 top stop)
      ∙ field_complete (decimal v) (length (decimal v)) (push x v) refl text (both_right (halting d ps) (ready d ps) r₁) h.1
  step_complete (digits k) r h text =
      let v = first vs in
      ap going
      (ap (digits_in k) (text ∙ append_assoc (hex k v) (fill d ps (rest vs)) more) ∙ digits_complete k v (fill d ps (rest vs) ++ more) h.0)
      ∙ ap (λ (f : Fields). scan d line f ps) (digits_after k v (leb k 16))
      ∙ field_complete (hex k v) k (pushes k x v) (length-fixed 16 k v) text r h.1

pub scan_complete : (d : ℕ) (line more : List ℕ) (x : Values) (o : ℕ) (form vs : List ℕ) → T (ready d form) → FieldsFit d form vs → drop o line ≡ fill d form vs ++ more
    → scan d line (at x o) form ≡ Ok (at (store d form vs x) (o + length (fill d form vs)))
unfolding scan advance
scan_complete d line more x o [] vs r h text = same_at x _ _ (omega arith)
scan_complete d line more x o (p ∷ ps) vs r h text =
    step_complete d line more p ps x o vs
    (λ (y : Values) (k : ℕ) (ws : List ℕ) (r : T (ready d ps)) (h : FieldsFit d ps ws) (t : drop k line ≡ fill d ps ws ++ more). scan_complete d line more y k ps ws r h t)
    (piece_of d p) r h text

-- ---- to the end of the line

abbrev pub zeros : Values
zeros = (begin 0).values

pub record WholeLine (d : ℕ) (line : List ℕ) (o : ℕ) (form : List ℕ) (x : Values) : Type 0 where
  pub values : List ℕ
  pub text : drop o line ≡ fill d form values
  pub range : FieldsFit d form values
  pub stored : x ≡ store d form values zeros

-- what has been scanned, where it ends
record Ended (line : List ℕ) (f r : Fields) : Type 0 where
  same : f ≡ r
  last : length line ≤ r.offset

ended_sound : (line : List ℕ) (f r : Fields) → ended line f ≡ Ok r → Ended line f r
ended_sound line f r e = go (leb (length line) f.offset) refl e
  where
    go : (t : Bool) → leb (length line) f.offset ≡ t → pick t (Ok f) (Err f) ≡ Ok r → Ended line f r
    go true g k = let s : f ≡ r = cc in record { same = s; last = subst (λ (g : Fields). length line ≤ g.offset) s (leb-true (length line) f.offset g) }
    go false g k = cc

pub whole_sound : (d : ℕ) (line : List ℕ) (o : ℕ) (form : List ℕ) (r : Fields) → whole d line o form ≡ Ok r → WholeLine d line o form r.values
unfolding whole
whole_sound d line o form r e = go (scan d line (begin o) form) refl e
  where
    go : (f : Result Fields Fields) → scan d line (begin o) form ≡ f → and_then (ended line) f ≡ Ok r → WholeLine d line o form r.values
    go (Err f) g h = cc
    go (Ok f) g h =
        let z = ended_sound line f r h in
        let k = scan_sound d line (begin o) r form (g ∙ ap Ok z.same) in
        let end : drop r.offset line ≡ [] = drop_of_length-le line z.last in
        record { values = k.values; text = k.text ∙ ap (fill d form k.values ++◌) end ∙ append-nil (fill d form k.values); range = k.range; stored = k.stored }

pub whole_complete : (d : ℕ) (line : List ℕ) (o : ℕ) (form vs : List ℕ) → T (ready d form) → FieldsFit d form vs → drop o line ≡ fill d form vs
    → whole d line o form ≡ Ok (at (store d form vs zeros) (o + length (fill d form vs)))
unfolding whole
whole_complete d line o form vs r h text =
    let n : length line - o ≡ length (fill d form vs) = sym (length-drop o line) ∙ ap length text in
    ap (and_then (ended line)) (scan_complete d line [] zeros o form vs r h (text ∙ sym (append-nil (fill d form vs))))
    ∙ rw (le-leb (length line) (o + length (fill d form vs)) (omega arith))

-- ---- how long a filled form is

abbrev room_piece : Piece → ℕ
room_piece letter = 1
room_piece (number m) = 10
room_piece (digits k) = k

abbrev pub room : ℕ → List ℕ → ℕ
room d [] = 0
room d (p ∷ ps) = room_piece (piece_of d p) + room d ps

room-piece : (d : ℕ) (ps : List ℕ) (q : Piece) (p : ℕ) (vs : List ℕ) → ((ws : List ℕ) → T (ready d ps) → FieldsFit d ps ws → length (fill d ps ws) ≤ room d ps)
    → T (ready_piece q (halting d ps) (ready d ps)) → fits_piece q vs (λ (ws : List ℕ). FieldsFit d ps ws) → length (fill_piece q p vs (λ (ws : List ℕ). fill d ps ws)) ≤ room_piece q + room d ps
room-piece d ps letter p vs ih r h = omega (arith, ih vs r h)
room-piece d ps (number m) p vs ih r h =
    let r₁ = both_right (ltb m 10000000000) (both (halting d ps) (ready d ps)) r in
    let top : m < 10 ^ 10 = leb→le (suc m) 10000000000 (both_left (ltb m 10000000000) (both (halting d ps) (ready d ps)) r) in
    omega (arith, length-append (decimal (first vs)) (fill d ps (rest vs)), length-decimal (first vs) (omega (arith, h.0)), ih (rest vs) (both_right (halting d ps) (ready d ps) r₁) h.1)
room-piece d ps (digits k) p vs ih r h =
    omega (arith, length-append (hex k (first vs)) (fill d ps (rest vs)), length-fixed 16 k (first vs), ih (rest vs) r h.1)

pub length-fill : (d : ℕ) (form vs : List ℕ) → T (ready d form) → FieldsFit d form vs → length (fill d form vs) ≤ room d form
length-fill d [] vs r h = omega arith
length-fill d (p ∷ ps) vs r h = room-piece d ps (piece_of d p) p vs (λ (ws : List ℕ) (r : T (ready d ps)) (h : FieldsFit d ps ws). length-fill d ps ws r h) r h
