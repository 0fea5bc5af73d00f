-- The doubled key rule.
-- Assumes nothing.
use mathlib.Core.Path.{◌≡◌, ap, ap₂, ◌∙◌}
use Prim.Native.Nat.{ℕ, ◌+◌, ◌-◌, ◌≤◌}
use native.Mathlib.Omega.{arith}
use Rattle.katan.specs.Bit.{xor}
use Rattle.katan.proofs.Bits.{xor_crossed, xor_through}
use Rattle.lanes_keys.specs.inner.Keeps.{Keeps}

-- all entries of a symmetric square: only those on the diagonal are left
module _ (p q r s u₁ u₂ u₃ u₄ u₅ u₆ : ℕ) where
  square_2 : xor (xor p u₁) (xor u₁ q) ≡ xor p q
  square_2 = xor_through p u₁ q

  square_3 : xor (xor (xor (xor p u₁) u₂) (xor (xor u₁ q) u₄)) (xor (xor u₂ u₄) r) ≡ xor (xor p q) r
  square_3 =
      ap (λ (t : ℕ). xor t (xor (xor u₂ u₄) r)) (xor_crossed (xor p u₁) u₂ (xor u₁ q) u₄)
      ∙ xor_through (xor (xor p u₁) (xor u₁ q)) (xor u₂ u₄) r
      ∙ ap (λ (t : ℕ). xor t r) square_2

  square_4 : xor (xor (xor (xor (xor (xor p u₁) u₂) u₃) (xor (xor (xor u₁ q) u₄) u₅)) (xor (xor (xor u₂ u₄) r) u₆)) (xor (xor (xor u₃ u₅) u₆) s)
      ≡ xor (xor (xor p q) r) s
  square_4 =
      let a = xor (xor p u₁) u₂ in
      let b = xor (xor u₁ q) u₄ in
      let c = xor (xor u₂ u₄) r in
      let z = xor (xor (xor u₃ u₅) u₆) s in
      ap (λ (t : ℕ). xor t z) (ap (λ (t : ℕ). xor t (xor c u₆)) (xor_crossed a u₃ b u₅) ∙ xor_crossed (xor a b) (xor u₃ u₅) c u₆)
      ∙ xor_through (xor (xor a b) c) (xor (xor u₃ u₅) u₆) s
      ∙ ap (λ (t : ℕ). xor t s) square_3

-- THEOREM: what keeps the key rule keeps it with doubled distances too
pub doubled : (f : ℕ → ℕ) (n : ℕ) → Keeps 1 80 n f → Keeps 2 160 n f
doubled f n h i p q =
    let row : (d : ℕ) → d ≤ 80 → f (i - d) ≡ xor (xor (xor (f (i - (d + 80))) (f (i - (d + 61)))) (f (i - (d + 50)))) (f (i - (d + 13)))
    = λ d l.
    let e : (k : ℕ) → k ≤ 80 → f (i - d - k) ≡ f (i - (d + k)) = λ k m. ap f (omega arith) in
    h (i - d) (omega arith) (omega arith)
    ∙ ap₂ xor (ap₂ xor (ap₂ xor (e 80 (omega arith)) (e 61 (omega arith))) (e 50 (omega arith))) (e 13 (omega arith)) in
    h i (omega arith) q
    ∙ ap₂ xor (ap₂ xor (ap₂ xor (row 80 (omega arith)) (row 61 (omega arith))) (row 50 (omega arith))) (row 13 (omega arith))
    ∙ square_4 (f (i - 160)) (f (i - 122)) (f (i - 100)) (f (i - 26)) (f (i - 141)) (f (i - 130)) (f (i - 93)) (f (i - 111)) (f (i - 74)) (f (i - 63))
