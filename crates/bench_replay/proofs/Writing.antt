-- A number written over a part of a list, and an answer written field by field.
-- Assumes nothing.
use Rattle.std.specs.Prelude.{Result, Ok, Err}
use mathlib.Core.Path.{◌≡◌, refl, sym, ap, ap₂, ◌∙◌}
use mathlib.Core.List.{List, [], ◌∷◌, ◌++◌, append_assoc}
use Prim.Native.Nat.{ℕ, ◌+◌, ◌-◌, ◌<◌, ◌≤◌}
use native.Mathlib.Numerals.{add-one}
use native.Mathlib.Omega.{arith}
use lib.ListN.{length, take, drop, set, length-set, length-append, length-drop}
use lib.Seq.{length-take-le, take_at, drop-append-add, drop-drop, set_split}
use native.Mathlib.Nat.{add_assoc}
use Rattle.katan.specs.Checks.{number_of, refused}
use Rattle.katan.specs.declared.Refusal.{Refusal}
use Rattle.bench.specs.declared.Reply.{Reply}
use Rattle.bench.specs.declared.Reply.TheVariants.{Done, Again}
use Rattle.bench.specs.declared.Reading.{Reading}
use Rattle.bench.specs.Bench.{reply_answer, reading_answer}
use Rattle.katan.specs.Bit.{bytes_of}
use Rattle.katan.proofs.Numbers.{length-bytes}
use Rattle.katan_numbers.proofs.Written.{in_bytes}
use Rattle.bench_replay.specs.Encoding.{answer_length, answer_fields, answer_bytes}
use Rattle.bench_replay.specs.inner.Steps.{overwritten}

-- a number in the part of a list from i to j, which has n places
number_over : (out : List ℕ) (i j n x : ℕ) {ys : List ℕ} → j ≡ i + n → j ≤ length out → ys ≡ bytes_of (length (take (j - i) (drop i out))) x
    → take i out ++ (ys ++ drop (j - i) (drop i out)) ≡ overwritten out i (bytes_of n x)
unfolding overwritten
number_over out i j n x e h y =
    let k : j - i ≡ n = omega arith in
    let l : length (take (j - i) (drop i out)) ≡ n = length-take-le (j - i) (drop i out) (omega (arith, length-drop i out)) ∙ k in
    ap₂ (λ (a : List ℕ) (m : ℕ). take i out ++ (a ++ drop m (drop i out))) (in_bytes n x y l) k
    ∙ ap (λ (b : List ℕ). take i out ++ (bytes_of n x ++ b)) (drop-drop n i out)
    ∙ sym (append_assoc (take i out) (bytes_of n x) (drop (i + n) out))
    ∙ ap (λ (m : ℕ). take i out ++ bytes_of n x ++ drop (i + m) out) (sym (length-bytes n x))

-- ---- one thing written after another

module _ (out : List ℕ) (i : ℕ) (xs : List ℕ) where
  head-length : i ≤ length out → length (take i out ++ xs) ≡ i + length xs
  head-length h = simp length-append (omega (arith, length-take-le i out h))

  pub take_over : (n : ℕ) → i + length xs ≡ n → i ≤ length out → take n (overwritten out i xs) ≡ take i out ++ xs
  unfolding overwritten
  take_over n e h = take_at (take i out ++ xs) (drop (i + length xs) out) n (head-length h ∙ e)

  pub length_over : (n : ℕ) → length xs ≡ n → i + n ≤ length out → length (overwritten out i xs) ≡ length out
  unfolding overwritten
  length_over n e h = simp (length-append, length-drop) (omega (arith, length-take-le i out (omega (arith, h))))

  drop_over : (n : ℕ) → i ≤ length out → drop (i + length xs + n) (overwritten out i xs) ≡ drop (i + length xs + n) out
  unfolding overwritten
  drop_over n h =
      ap (λ (m : ℕ). drop (m + n) (take i out ++ xs ++ drop (i + length xs) out)) (sym (head-length h))
      ∙ drop-append-add (take i out ++ xs) (drop (i + length xs) out) n
      ∙ drop-drop n (i + length xs) out

  over_over : (n : ℕ) (ys : List ℕ) → i + length xs ≡ n → i ≤ length out → overwritten (overwritten out i xs) n ys ≡ overwritten out i (xs ++ ys)
  unfolding overwritten
  over_over n ys e h =
      rw (← e) (ap₂ (λ (a c : List ℕ). a ++ ys ++ c) (take_over (i + length xs) refl h) (drop_over (length ys) h)
      ∙ simp (append_assoc, length-append, add_assoc))

set_over : (out : List ℕ) (i x : ℕ) → i < length out → set out i x ≡ overwritten out i (x ∷ [])
unfolding overwritten
set_over out i x h = simp (set_split out i x h, append_assoc, add-one)

-- the three fields, each after the one before
module _ (out : List ℕ) (i kind first second : ℕ) (h : i + answer_length ≤ length out) (ys zs : List ℕ) where
  abbrev one : List ℕ
  one = set out i kind

  abbrev two : List ℕ
  two = take (i + 1) one ++ (ys ++ drop (i + 5 - (i + 1)) (drop (i + 1) one))

  module _ (e : ys ≡ bytes_of (length (take (i + 5 - (i + 1)) (drop (i + 1) one))) first) where
    room : i + 5 ≤ length one
    room = rw (length-set out i kind) (omega arith)

    first_over : two ≡ overwritten one (i + 1) (bytes_of 4 first)
    first_over = number_over one (i + 1) (i + 5) 4 first (omega arith) room e

    pub first_put : length two ≡ length out
    unfolding bytes_of
    first_put = ap length first_over ∙ length_over one (i + 1) (bytes_of 4 first) 4 refl (omega (arith, room)) ∙ length-set out i kind

    pub fields_put : zs ≡ bytes_of (length (take (i + 13 - (i + 5)) (drop (i + 5) two))) second
        → take (i + 5) two ++ (zs ++ drop (i + 13 - (i + 5)) (drop (i + 5) two)) ≡ overwritten out i (answer_fields kind first second)
    unfolding answer_fields bytes_of
    fields_put f =
        let g : i ≤ length out = omega arith in
        let l : i < length out = omega arith in
        number_over two (i + 5) (i + 13) 8 second (omega arith) (omega (arith, first_put)) f
        ∙ ap (λ (a : List ℕ). overwritten a (i + 5) (bytes_of 8 second))
        (first_over ∙ ap (λ (a : List ℕ). overwritten a (i + 1) (bytes_of 4 first)) (set_over out i kind l) ∙ over_over out i (kind ∷ []) (i + 1) (bytes_of 4 first) refl g)
        ∙ over_over out i ((kind ∷ []) ++ bytes_of 4 first) (i + 5) (bytes_of 8 second) refl g

pub fields_length : (kind first second : ℕ) → length (answer_fields kind first second) ≡ answer_length
unfolding answer_fields bytes_of
fields_length kind first second = refl

-- ---- the fields of each answer

pub refused_fields : {k n : ℕ} → k ≡ n → answer_fields 4 k 0 ≡ answer_bytes (refused n)
unfolding answer_bytes
refused_fields e = rw e

module _ {a : Result Reply Refusal} where
  pub done_fields : {n t : ℕ} → a ≡ Ok (Done n t) → answer_fields 1 n t ≡ answer_bytes (reply_answer a)
  unfolding answer_bytes
  done_fields e = rw e

  pub again_fields : {n t : ℕ} → a ≡ Ok (Again n t) → answer_fields 2 n t ≡ answer_bytes (reply_answer a)
  unfolding answer_bytes
  again_fields e = rw e

  pub refused_reply : {r : Refusal} {bytes : List ℕ} → bytes ≡ answer_bytes (refused (number_of r)) → a ≡ Err r → bytes ≡ answer_bytes (reply_answer a)
  refused_reply f e = rw e f

module _ {a : Result Reading Refusal} where
  pub at_fields : {r : Reading} → a ≡ Ok r → answer_fields 3 r.position.0 r.registers ≡ answer_bytes (reading_answer a)
  unfolding answer_bytes
  at_fields e = rw e

  pub refused_read : {r : Refusal} {bytes : List ℕ} → bytes ≡ answer_bytes (refused (number_of r)) → a ≡ Err r → bytes ≡ answer_bytes (reading_answer a)
  refused_read f e = rw e f
