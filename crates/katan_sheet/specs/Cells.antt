-- The rounds (document 01) over any bits with an xor and an and: registers as lists, bit 0 first, which shift.
-- Assumes nothing.
use Rattle.std.specs.Prelude.{ℕ, zero, suc, List, ◌∷◌, ◌++◌, get_or, take, drop}
use Rattle.katan.specs.Clock.{fa, fb}
use Rattle.katan.specs.Counter.{counter, ir_of}
use Rattle.katan.specs.Key.{round_keys, ka_of, kb_of}
use Rattle.katan.specs.Variant.{row_of}
use Rattle.katan.specs.declared.Row.{Row}

-- L1 and L2
pub record Cells (B : Type 0) : Type 0 where
  pub l1 : List B
  pub l2 : List B

-- a register of w bits shifts left, and b enters it
abbrev pub shifted : {B : Type 0} → ℕ → List B → B → List B
shifted w l b = take w (b ∷ l)

-- block bit 0 is L2 bit 0; L1 bit 0 follows L2's highest bit
abbrev pub cells : {B : Type 0} → Row → List B → Cells B
cells v bits = record { l1 = drop v.len2 bits; l2 = take v.len2 bits }

abbrev pub block_of : {B : Type 0} → Cells B → List B
block_of s = s.l2 ++ s.l1

-- bits with an xor, an and, and the bits that 0 and 1 are
module _ {B : Type 0} (◌⊕◌ ◌⊙◌ : B → B → B) (bit_of : ℕ → B) where
  -- both formulas take the old registers; fb enters L1, fa enters L2
  abbrev pub clock_cells : Row → (ir ka kb : B) → Cells B → Cells B
  clock_cells v ir ka kb s =
      record {
        l1 = shifted v.len1 s.l1 (fb ◌⊕◌ ◌⊙◌ v (λ i. get_or s.l2 i (bit_of 0)) kb);
        l2 = shifted v.len2 s.l2 (fa ◌⊕◌ ◌⊙◌ v (λ i. get_or s.l1 i (bit_of 0)) ir ka);
      }

  -- c clocks with one input
  abbrev pub clocks_cells : Row → (ir ka kb : B) → ℕ → Cells B → Cells B
  clocks_cells v ir ka kb zero s = s
  clocks_cells v ir ka kb (suc c) s = clock_cells v ir ka kb (clocks_cells v ir ka kb c s)

  -- round r, with ks the variant's round keys
  abbrev pub round_cells : (v : ℕ) → List B → (r : ℕ) → Cells B → Cells B
  round_cells v ks r s =
      let t = counter r in
      clocks_cells (row_of v) (bit_of (ir_of t)) (ka_of (bit_of 0) v ks t r) (kb_of (bit_of 0) v ks t r) (row_of v).clocks s

  -- the rounds 0 to p - 1
  abbrev pub run_cells : (v : ℕ) → List B → (p : ℕ) → Cells B → Cells B
  run_cells v ks zero s = s
  run_cells v ks (suc p) s = round_cells v ks p (run_cells v ks p s)

  -- the registers at position p, as a block, with the block in them at position 0; the key has 80 bits
  unfoldable pub bits_at : (v : ℕ) → (key block : List B) → (p : ℕ) → List B
  bits_at v key block p = block_of (run_cells v (round_keys ◌⊕◌ (bit_of 0) v key) p (cells (row_of v) block))
