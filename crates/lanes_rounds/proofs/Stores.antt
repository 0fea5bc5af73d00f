-- A part of a list, put at its place with the last word first.
-- Assumes nothing.
use mathlib.Core.Path.{◌≡◌, refl, ap, ◌∙◌}
use mathlib.Core.List.{List, ◌++◌}
use Prim.Native.Nat.{ℕ, zero, suc, ◌+◌, ◌-◌, ◌<◌, ◌≤◌}
use native.Mathlib.Omega.{arith}
use lib.ListN.{length, get_or, take, drop, replicate, get_or-append, length-drop}
use lib.Seq.{length-take-le}
use Rattle.std.proofs.lemmas.List.{get_or-append_right, get_or-take, get_or-drop}

-- a list of zeros
pub zeros : (n i : ℕ) → ◌≡◌ {A = ℕ} (get_or (replicate n 0) i 0) 0
zeros zero i = refl
zeros (suc n) zero = refl
zeros (suc n) (suc i) = zeros n i

-- k words of a list, from a place on
pub part_long : (t n k : ℕ) (xs : List ℕ) → k ≡ n → t + n ≤ length xs → length (take k (drop t xs)) ≡ n
part_long t n k xs e h = length-take-le k (drop t xs) (omega (arith, length-drop t xs)) ∙ e

pub part_read : (t k i : ℕ) (xs : List ℕ) → i < k → get_or (take k (drop t xs)) i 0 ≡ get_or xs (t + i) 0
part_read t k i xs q = get_or-take k (drop t xs) i 0 q ∙ get_or-drop t xs i 0

-- ys has the n words of ws, the last first
pub reversed_at : (ws ys : List ℕ) (n i : ℕ) → length ws ≡ n → ((j : ℕ) → j < length ws → get_or ys j 0 ≡ get_or ws (length ws - 1 - j) 0) → i < n → get_or ys (n - 1 - i) 0 ≡ get_or ws i 0
reversed_at ws ys n i l r q =
    let e : length ws - 1 - (n - 1 - i) ≡ i = omega arith in
    r (n - 1 - i) (omega arith) ∙ ap (λ (j : ℕ). get_or ws j 0) e

module _ (at : ℕ) (xs ys rest : List ℕ) (h : at ≤ length xs) where
  -- in place of a part of xs
  pub part_at : (i j : ℕ) → i < length ys → j ≡ at + i → get_or (take at xs ++ (ys ++ rest)) j 0 ≡ get_or ys i 0
  part_at i j q e =
      let d : j - at ≡ i = omega arith in
      get_or-append_right (take at xs) (ys ++ rest) at j 0 (length-take-le at xs h) (omega arith)
      ∙ ap (λ (k : ℕ). get_or (ys ++ rest) k 0) d
      ∙ get_or-append ys rest 0 i q

  pub part_before : (j : ℕ) → j < at → get_or (take at xs ++ (ys ++ rest)) j 0 ≡ get_or xs j 0
  part_before j q = get_or-append (take at xs) (ys ++ rest) 0 j (omega (arith, length-take-le at xs h)) ∙ get_or-take at xs j 0 q

  pub part_after : (i j : ℕ) → j ≡ at + length ys + i → get_or (take at xs ++ (ys ++ rest)) j 0 ≡ get_or rest i 0
  part_after i j e =
      let d : j - at ≡ length ys + i = omega arith in
      let f : length ys + i - length ys ≡ i = omega arith in
      get_or-append_right (take at xs) (ys ++ rest) at j 0 (length-take-le at xs h) (omega arith)
      ∙ ap (λ (k : ℕ). get_or (ys ++ rest) k 0) d
      ∙ get_or-append_right ys rest (length ys) (length ys + i) 0 refl (omega arith)
      ∙ ap (λ (k : ℕ). get_or rest k 0) f
