-- Digits written from the right, and a form from the left.
-- Assumes nothing.
use Prim.Native.Nat.{ℕ, zero, suc, ◌+◌, ◌-◌, ◌/◌, ◌%◌, ◌^◌, ◌≤◌, ◌<◌}
use mathlib.Core.Path.{◌≡◌, refl, sym, ap, ◌∙◌, subst⁻¹}
use mathlib.Core.List.{List, [], ◌∷◌, ◌++◌, append_assoc, append-nil}
use native.Mathlib.Nat.{sub-zero, sub_self, add-zero}
use Rattle.std.specs.Prelude.{Some, None, ◌⊎◌}
use Rattle.std.proofs.lemmas.Slice.{take-put_mid, drop-put_mid}
use borrow.Rule.Slice.PartMut.{put_mid}
use native.Mathlib.Numerals.{add-one}
use native.Mathlib.Omega.{arith}
use lib.Dec.{lit≤}
use lib.ListN.{length, drop, take, set, get_or, take-append-drop, length-append, length-drop, drop_of_length-le}
use lib.Seq.{take-suc, append_snoc, set_at, length-take-le, drop-cons, drop-drop, take_at, drop_at, set_split, take-length}
use Rattle.std.proofs.Math.Logic.{⊎_elim}
use Rattle.script_form.specs.Digits.{digit, fixed, place}
use Rattle.script_form.specs.Form.{Piece, letter, number, digits, piece_of, first, rest, fill, fill_piece}
use Rattle.script_form.proofs.Lengths.{div_step, decimal-fixed, length-fixed}
use Rattle.script_answers.specs.inner.Pieces.{text_of, values_taken, Shapes, put_at}
use Rattle.script_answers.specs.declared.form.Digits.{Digits}

-- ---- digits

set_front : (l r : List ℕ) (m x : ℕ) → m < length l → set (take (suc m) l ++ r) m x ≡ take m l ++ (x ∷ r)
set_front l r m x h =
    rw (take-suc l m 0 h, append_snoc (take m l) (get_or l m 0) r)
    (set_at (take m l) (get_or l m 0) r x m (length-take-le m l (omega arith)))

-- the lowest digits of n in base b, written over l from the right as far as i
module _ (l : List ℕ) (b n : ℕ) where
  pub written : ℕ → List ℕ
  written i = take i l ++ fixed b (length l - i) n

  pub none_written : l ≡ written (length l)
  unfolding written fixed
  none_written = rw (sub_self (length l), take-length l) (sym (append-nil l))

  pub all_written : written 0 ≡ fixed b (length l) n
  unfolding written
  all_written = rw (sub-zero (length l))

  module _ (i left : ℕ) (h : 0 < i) (inside : i ≤ length l) (e : left ≡ n / b ^ (length l - i)) where
    pub left_next : left / b ≡ n / b ^ (length l - (i - 1))
    left_next =
        let k : length l - (i - 1) ≡ suc (length l - i) = omega arith in
        rw (k, div_step b (length l - i) n, e)

    pub written_next : (out : List ℕ) → out ≡ written i → set out (i - 1) (digit (left % b)) ≡ written (i - 1)
    unfolding written fixed
    written_next out f =
        let k : length l - (i - 1) ≡ suc (length l - i) = omega arith in
        let m : suc (i - 1) ≡ i = omega arith in
        rw (k, e) (ap (λ (x : List ℕ). set x (i - 1) (digit (n / b ^ (length l - i) % b))) (f ∙ ap (λ (x : ℕ). take x l ++ fixed b (length l - i) n) (sym m))
        ∙ set_front l (fixed b (length l - i) n) (i - 1) (digit (n / b ^ (length l - i) % b)) (omega arith))

-- ---- a form

abbrev next_of : Piece → List ℕ → List ℕ
next_of letter vs = vs
next_of (number max) vs = rest vs
next_of (digits count) vs = rest vs

fill-piece : (q : Piece) (p : ℕ) (vs : List ℕ) (more : List ℕ → List ℕ) → fill_piece q p vs more ≡ text_of q p (first vs) ++ more (next_of q vs)
fill-piece letter p vs more = refl
fill-piece (number max) p vs more = refl
fill-piece (digits count) p vs more = refl

first_drop : (vs : List ℕ) (n : ℕ) → first (drop n vs) ≡ get_or vs n 0
first_drop [] zero = refl
first_drop [] (suc n) = refl
first_drop (v ∷ vs) zero = refl
first_drop (v ∷ vs) (suc n) = first_drop vs n

rest_drop : (vs : List ℕ) (n : ℕ) → rest (drop n vs) ≡ drop (suc n) vs
rest_drop [] zero = refl
rest_drop [] (suc n) = refl
rest_drop (v ∷ vs) zero = refl
rest_drop (v ∷ vs) (suc n) = rest_drop vs n

next_drop : (q : Piece) (vs : List ℕ) (n : ℕ) → next_of q (drop n vs) ≡ drop (n + values_taken q) vs
next_drop letter vs n = rw (add-zero n)
next_drop (number max) vs n = rw (add-one n) (rest_drop vs n)
next_drop (digits count) vs n = rw (add-one n) (rest_drop vs n)

pub taken_few : (q : Piece) → values_taken q ≤ 1
taken_few letter = omega arith
taken_few (number max) = omega arith
taken_few (digits count) = omega arith

module _ (d : ℕ) (form vs : List ℕ) (f n : ℕ) where
  abbrev pub text : List ℕ
  text = text_of (piece_of d (get_or form f 0)) (get_or form f 0) (get_or vs n 0)

  abbrev later : List ℕ
  later = fill d (drop (f + 1) form) (drop (n + values_taken (piece_of d (get_or form f 0))) vs)

  fill_front : f < length form → fill d (drop f form) (drop n vs) ≡ text ++ later
  fill_front h =
      let p = get_or form f 0 in
      rw (drop-cons form f 0 h) (fill-piece (piece_of d p) p (drop n vs) (λ (ws : List ℕ). fill d (drop (suc f) form) ws) ∙ rw (first_drop vs n, next_drop (piece_of d p) vs n, add-one f))

  -- one turn of the loop that writes a form
  module _ (out start whole : List ℕ) (at : ℕ) (h : f < length form) (inside : at ≤ length out) (i : take at out ++ fill d (drop f form) (drop n vs) ≡ whole)
      (fits : length whole ≤ length out) where
    parts : (take at out ++ text) ++ later ≡ whole
    parts = append_assoc (take at out) text later ∙ rw (fill_front h) at i

    pub piece_fits : at + length text ≤ length out
    piece_fits = omega (arith, simp (length-append, length-take-le at out inside) at (ap length parts))

    module _ (out' : List ℕ) (e : out' ≡ put_at at text out) where
      front : length (take at out ++ text) ≡ at + length text
      front = rw (length-append (take at out) text, length-take-le at out inside)

      split : out' ≡ (take at out ++ text) ++ drop (at + length text) out
      split = e ∙ sym (append_assoc (take at out) text (drop (at + length text) out))

      pub record Turn : Type 0 where
        pub same_length : length out' ≡ length out
        pub before : take (at + length text) out' ++ later ≡ whole
        pub after : drop at out ≡ drop at start → drop (at + length text) out' ≡ drop (at + length text) start

      pub turn : Turn
      turn =
          record {
            same_length = rw split (rw (length-append (take at out ++ text) (drop (at + length text) out), front, length-drop (at + length text) out) (omega (arith, piece_fits)));
            before = rw split (rw (take_at (take at out ++ text) (drop (at + length text) out) (at + length text) front) parts);
            after = λ g. rw split (rw (drop_at (take at out ++ text) (drop (at + length text) out) (at + length text) front) (sym (drop-drop (length text) at out) ∙ ap (drop (length text)) g ∙ drop-drop (length text) at start));
          }

-- the whole form is written
pub form_end : (d : ℕ) (form vs : List ℕ) (f n : ℕ) (out start whole : List ℕ) (at : ℕ) → length form ≤ f → at ≤ length out
    → take at out ++ fill d (drop f form) (drop n vs) ≡ whole → drop at out ≡ drop at start → (at ≡ length whole) × (out ≡ whole ++ drop (length whole) start)
form_end d form vs f n out start whole at h inside i g =
    let a : take at out ++ [] ≡ whole = rw (drop_of_length-le form h) at i in
    let b : take at out ≡ whole = sym (append-nil (take at out)) ∙ a in
    let k : at ≡ length whole = sym (length-take-le at out inside) ∙ ap length b in
    (k, sym (take-append-drop at out) ∙ rw (b, g, k))

-- ---- how a byte of a form is written

pub number_shape : (d p v k : ℕ) → k ≡ place 19 v → (p ≡ 35) ⊎ (p ≡ 37) → Shapes (Some (record { base = 10; count = k + 1 })) (piece_of d p) p v
number_shape d p v k e f = ⊎_elim (λ (g : p ≡ 35). of 35 4294967295 g refl) (λ (g : p ≡ 37). of 37 255 g refl) f
  where
    of : (x max : ℕ) → p ≡ x → piece_of d x ≡ number max → Shapes (Some (record { base = 10; count = k + 1 })) (piece_of d p) p v
    of x max g h =
        subst⁻¹ (λ (q : Piece). Shapes (Some (record { base = 10; count = k + 1 })) q p v) (ap (piece_of d) g ∙ h)
        (record { text = rw e (sym (decimal-fixed v)); takes = refl; base = (lit≤ tt, lit≤ tt) })

-- what the byte's writer knows of its digits
module _ (q : Piece) (p v at : ℕ) (out : List ℕ) where
  pub record Put (at' taken : ℕ) (out' : List ℕ) : Type 0 where
    pub next : at' ≡ at + length (text_of q p v)
    pub takes : taken ≡ values_taken q
    pub written : out' ≡ put_at at (text_of q p v) out

  pub letter_put : Shapes None q p v → at < length out → Put (at + 1) 0 (set out at p)
  letter_put h room =
      record {
        next = ap (λ (t : List ℕ). at + length t) h.text;
        takes = h.takes;
        written = set_split out at p room ∙ rw (add-one at) refl ∙ ap (λ (t : List ℕ). put_at at t out) h.text;
      }

  module _ (x : Digits) (h : Shapes (Some x) q p v) where
    pub digits_size : length (text_of q p v) ≡ x.count
    digits_size = sym (ap length h.text) ∙ length-fixed x.base x.count v

    pub digits_put : (end k : ℕ) (ys : List ℕ) → end ≡ at + x.count → k ≡ x.count → at + x.count ≤ length out → ys ≡ fixed x.base x.count v → Put end 1 (put_mid at k out ys)
    digits_put end k ys e f room g =
        let ly : length ys ≡ x.count = ap length g ∙ length-fixed x.base x.count v in
        let t : take end (put_mid at k out ys) ≡ take at out ++ ys = take-put_mid at k out ys end (omega arith) (omega arith) in
        let d : drop end (put_mid at k out ys) ≡ drop end out = drop-put_mid at k out ys end (omega arith) (omega arith) (omega arith) in
        let y : ys ≡ text_of q p v = g ∙ h.text in
        let z : end ≡ at + length (text_of q p v) = e ∙ ap (λ (i : ℕ). at + i) (sym digits_size) in
        record {
          next = z;
          takes = h.takes;
          written = sym (take-append-drop end (put_mid at k out ys)) ∙ (λ i. t i ++ d i) ∙ append_assoc (take at out) ys (drop end out) ∙ (λ i. take at out ++ (y i ++ drop (z i) out));
        }
