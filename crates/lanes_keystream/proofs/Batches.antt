-- A batch: a call of `many` that finds no fault, and the bytes of its results.
-- Assumes nothing.
use mathlib.Core.Path.{◌≡◌, refl, sym, ap, subst, ◌∙◌}
use mathlib.Core.Bool.{Bool, true, false}
use mathlib.Core.List.{List, [], ◌∷◌, ◌++◌}
use Prim.Native.Nat.{ℕ, suc, ◌+◌, ◌-◌, ◌*◌, ◌/◌, ◌%◌, ◌^◌, ◌<◌, ◌≤◌}
use native.Mathlib.Nat.{lt_of_lt_of_le, mul_comm, mul-le-mul_left, div-lt_iff_lt-mul}
use native.Mathlib.Omega.{arith}
use borrow.Author.Tests.{ltb-true, ltb-false, lt-leb}
use lib.Dec.{ltb}
use lib.ListN.{length, get_or, drop, replicate, length-append, length-drop, length-replicate, get_or-append, get_or-replicate}
use lib.Seq.{get_or-drop}
use Rattle.std.proofs.lemmas.List.{get_or-append_right}
use lib.Pow.{pow_pos}
use Rattle.katan.specs.Bit.{pick, bytes_of}
use Rattle.katan.specs.Sizes.{lane_count, key_bytes}
use Rattle.katan.specs.Variant.{width_of}
use Rattle.katan.specs.Machine.{encryption}
use Rattle.katan.specs.Checks.{Outcome, value, variant_check}
use Rattle.katan.specs.Lent.{lent_after}
use Rattle.katan.specs.inner.Within.{Entries}
use Rattle.katan.proofs.Checked.{no_fault_found}
use Rattle.katan.proofs.Tables.{entry}
use Rattle.lanes.specs.Many.{block_key, any, results, many_checks, many_of}
use Rattle.lanes.specs.declared.Direction.TheVariants.{Encrypt}
use Rattle.lanes.proofs.Faults.{no_fault}
use Rattle.lanes_keystream.specs.inner.Batch.{byte_of}

-- ---- no fault is found

none_any : (f : ℕ → Bool) (xs : List ℕ) → ((i : ℕ) → i < length xs → f (get_or xs i 0) ≡ false) → any f xs ≡ false
none_any f [] h = refl
none_any f (x ∷ xs) h = ap (λ (b : Bool). pick b true (any f xs)) (h 0 (omega arith)) ∙ none_any f xs (λ i q. h (suc i) (omega arith))

module _ (v : ℕ) (keys numbers old : List ℕ) (known : (variant_check v).fault ≡ false) (l : length numbers ≡ lane_count) (k : length keys ≡ key_bytes * lane_count) (o : length old ≡ lane_count)
    (small : (i : ℕ) → i < lane_count → get_or numbers i 0 < 2 ^ width_of v) where
  many_done : many_of Encrypt v keys numbers old ≡ results Encrypt v keys numbers
  many_done =
      let none : length numbers ≡ 0 → ⊥ = λ e. omega arith in
      let few : length numbers ≤ lane_count = omega arith in
      let enough : length keys ≡ key_bytes * length numbers = omega arith in
      let same : length old ≡ length numbers = omega arith in
      ap (λ (a : Outcome (List ℕ)). lent_after (λ (ys : List ℕ). ys) a old)
      (no_fault_found (many_checks v keys numbers old) (value (results Encrypt v keys numbers))
      (known, (no_fault v keys numbers old none few enough same, (none_any _ numbers (λ i q. lt-leb (2 ^ width_of v) (get_or numbers i 0) (small i (omega arith))), tt))))

  -- result i
  pub one_done : (new : List ℕ) → new ≡ many_of Encrypt v keys numbers old → (i : ℕ) → i < lane_count → get_or new i 0 ≡ encryption v (block_key keys i) (get_or numbers i 0)
  unfolding results
  one_done new e i q =
      ap (λ (xs : List ℕ). get_or xs i 0) (e ∙ many_done) ∙ entry (λ j. encryption v (block_key keys j) (get_or numbers j 0)) (length numbers) i 0 (omega arith)

-- the numbers of a batch, in the first places, and zeros
module _ (start first count n : ℕ) (xs : List ℕ) (l : length xs ≡ count) (e : Entries (λ i. start + (first + i)) count xs) where
  abbrev pub numbers : List ℕ
  numbers = xs ++ drop count (replicate lane_count 0)

  pub numbers_long : count ≤ lane_count → length numbers ≡ lane_count
  numbers_long h =
      let zeros = replicate {A = ℕ} lane_count 0 in
      omega (arith, length-append xs (drop count zeros), length-drop count zeros, length-replicate {A = ℕ} lane_count 0, l, h)

  pub number : Entries (λ i. start + (first + i)) count numbers
  number i q = get_or-append xs _ 0 i (omega arith) ∙ e i q

  -- they are blocks
  pub numbers_small : start + (first + count) ≤ 2 ^ n → (i : ℕ) → i < lane_count → get_or numbers i 0 < 2 ^ n
  numbers_small h i q = go (ltb i count) refl
    where
      go : (b : Bool) → ltb i count ≡ b → get_or numbers i 0 < 2 ^ n
      go true d =
          let p = ltb-true i count d in
          subst (λ (x : ℕ). x < 2 ^ n) (sym (number i p)) (omega arith)
      go false d =
          let p = ltb-false i count d in
          let t : count + (i - count) ≡ i = omega arith in
          let zero : get_or numbers i 0 ≡ 0
          = get_or-append_right xs _ count i 0 l p ∙ get_or-drop count (replicate lane_count 0) (i - count) 0 ∙ ap (λ (k : ℕ). get_or (replicate {A = ℕ} lane_count 0) k 0) t
          ∙ get_or-replicate lane_count i 0 0 q in
          subst (λ (x : ℕ). x < 2 ^ n) (sym zero) (pow_pos n)

-- the bytes of the first blocks, where the blocks are known
pub bytes_known : (s count most : ℕ) (x y : ℕ → ℕ) (out : List ℕ) → 1 ≤ s → count ≤ most → ((i : ℕ) → i < count → x i ≡ y i) → Entries (byte_of s x) (s * most) out → Entries (byte_of s y) (s * count) out
bytes_known s count most x y out some few same e j q =
    let p : j < s * most = lt_of_lt_of_le q (mul-le-mul_left s few) in
    let r : j / s < count = (div-lt_iff_lt-mul {k = s} {x = j} {y = count} some).1 (subst (λ (m : ℕ). j < m) (mul_comm s count) q) in
    e j p ∙ ap (λ (n : ℕ). get_or (bytes_of s n) (j % s) 0) (same (j / s) r)
