-- The registers of a run keep their lengths, and the block has the width; where its bits stand. For bits of any kind.
-- Assumes nothing.
use mathlib.Core.Path.{◌≡◌, ◌∙◌}
use mathlib.Core.List.{List, ◌∷◌}
use Prim.Native.Nat.{ℕ, zero, suc, ◌+◌, ◌<◌}
use native.Mathlib.Omega.{arith}
use lib.ListN.{length, get_or, length-append, length-drop, get_or-append}
use lib.Seq.{length-take-le, get_or-append-add}
use Rattle.katan.specs.Key.{round_keys}
use Rattle.katan.specs.Variant.{row_of, width_of}
use Rattle.katan.specs.declared.Row.{Row}
use Rattle.katan.proofs.Undo.{sound}
use Rattle.katan_sheet.specs.Cells.{Cells, shifted, cells, block_of, clocks_cells, run_cells, bits_at}

-- L1 and L2 have their row's lengths
abbrev pub Sized : {B : Type 0} → Row → Cells B → Type 0
Sized v s = (length s.l1 ≡ v.len1) × (length s.l2 ≡ v.len2)

module _ {B : Type 0} where
  length-shifted : (w : ℕ) (l : List B) (b : B) → length l ≡ w → length (shifted w l b) ≡ w
  length-shifted w l b h = length-take-le w (b ∷ l) (omega arith)

  pub length-cells : (v : ℕ) (block : List B) → length block ≡ width_of v → Sized (row_of v) (cells (row_of v) block)
  length-cells v block h =
      let n = (sound v).both in
      (length-drop (row_of v).len2 block ∙ omega arith, length-take-le (row_of v).len2 block (omega arith))

  -- block bits below L2's length are L2's, the others L1's
  module _ (s : Cells B) (i : ℕ) (z : B) where
    pub block_low : i < length s.l2 → get_or (block_of s) i z ≡ get_or s.l2 i z
    block_low h = get_or-append s.l2 s.l1 z i h

    pub block_high : get_or (block_of s) (length s.l2 + i) z ≡ get_or s.l1 i z
    block_high = get_or-append-add s.l2 s.l1 i z

module _ {B : Type 0} (◌⊕◌ ◌⊙◌ : B → B → B) (bit_of : ℕ → B) where
  length-clocks : (v : Row) (ir ka kb : B) (c : ℕ) (s : Cells B) → Sized v s → Sized v (clocks_cells ◌⊕◌ ◌⊙◌ bit_of v ir ka kb c s)
  length-clocks v ir ka kb zero s h = h
  length-clocks v ir ka kb (suc c) s h =
      let g = length-clocks v ir ka kb c s h in (length-shifted v.len1 _ _ g.0, length-shifted v.len2 _ _ g.1)

  pub length_run : (v : ℕ) (ks : List B) (p : ℕ) (block : List B) → length block ≡ width_of v
      → Sized (row_of v) (run_cells ◌⊕◌ ◌⊙◌ bit_of v ks p (cells (row_of v) block))
  length_run v ks zero block h = length-cells v block h
  length_run v ks (suc p) block h = length-clocks (row_of v) _ _ _ (row_of v).clocks _ (length_run v ks p block h)

  pub length_bits : (v : ℕ) (key block : List B) (p : ℕ) → length block ≡ width_of v → length (bits_at ◌⊕◌ ◌⊙◌ bit_of v key block p) ≡ width_of v
  unfolding bits_at
  length_bits v key block p h =
      let s = run_cells ◌⊕◌ ◌⊙◌ bit_of v (round_keys ◌⊕◌ (bit_of 0) v key) p (cells (row_of v) block) in
      length-append s.l2 s.l1 ∙ omega (arith, length_run v (round_keys ◌⊕◌ (bit_of 0) v key) p block h, (sound v).both)
