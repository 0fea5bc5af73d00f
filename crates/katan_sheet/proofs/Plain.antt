-- The rounds over single bits: their registers have the bits of the machine's.
-- Assumes nothing.
use mathlib.Core.Path.{◌≡◌, refl, sym, ap, subst, ◌∙◌}
use mathlib.Core.List.{◌∷◌}
use Prim.Native.Nat.{ℕ, zero, suc, ◌^◌, ◌<◌}
use native.Mathlib.Nat.{zero-add, sub-zero}
use native.Mathlib.Omega.{arith}
use lib.ListN.{get_or}
use lib.Seq.{get_or-take}
use Rattle.katan.specs.Bit.{bit, xor, and, tabulate}
use Rattle.katan.specs.Clock.{clocks, round, run, registers, input_of}
use Rattle.katan.specs.Key.{round_keys, key_bits}
use Rattle.katan.specs.Machine.{registers_at, forward}
use Rattle.katan.specs.Variant.{row_of, width_of}
use Rattle.katan.specs.inner.Within.{Sound, Bits}
use Rattle.katan.specs.declared.Row.{Row}
use Rattle.katan.specs.declared.Registers.{Registers}
use Rattle.katan.specs.declared.RoundInput.{RoundInput}
use Rattle.katan.proofs.Keys.{input_bits}
use Rattle.katan.proofs.Positions.{registers_fit, at_later}
use Rattle.katan.proofs.Shows.{Shows, clock_shows}
use Rattle.katan.proofs.Tables.{length-tabulate}
use Rattle.katan.proofs.Undo.{sound, run_fits}
use Rattle.katan_sheet.specs.Cells.{Cells, cells, clocks_cells, run_cells, bits_at}
use Rattle.katan_sheet.proofs.Lengths.{length_run}
use Rattle.katan_sheet.proofs.Blocks.{start_has, block_has}

abbrev HasBits : Row → Cells ℕ → Registers → Type 0
HasBits v s g = Shows v (λ i. get_or s.l1 i 0) (λ i. get_or s.l2 i 0) g

clocks_have : (v : Row) → Sound v → (u : RoundInput) → Bits u → (c : ℕ) (s : Cells ℕ) (g : Registers) → HasBits v s g → HasBits v (clocks_cells xor and (λ b. b) v u.ir u.ka u.kb c s) (clocks v u c g)
clocks_have v t u b zero s g h = h
clocks_have v t u b (suc c) s g h =
    let before = clocks_cells xor and (λ b. b) v u.ir u.ka u.kb c s in
    clock_shows v t u b (clocks v u c g) _ _ _ _ (clocks_have v t u b c s g h)
    (get_or-take v.len1 (_ ∷ before.l1) 0 0 (omega (arith, t.top1)))
    (get_or-take v.len2 (_ ∷ before.l2) 0 0 (omega (arith, t.top2)))
    (λ i q. get_or-take v.len1 (_ ∷ before.l1) (suc i) 0 (omega (arith, t.top1)))
    (λ i q. get_or-take v.len2 (_ ∷ before.l2) (suc i) 0 (omega (arith, t.top2)))

module _ (v key x : ℕ) where
  abbrev cells_at : ℕ → Cells ℕ
  cells_at p = run_cells xor and (λ b. b) v (round_keys xor 0 v (key_bits key)) p (cells (row_of v) (tabulate (bit x) 0 (width_of v)))

  abbrev machine_at : ℕ → Registers
  machine_at p = run (row_of v) (input_of v key) 0 p (registers (row_of v) x)

  run_has : (p : ℕ) → HasBits (row_of v) (cells_at p) (machine_at p)
  unfolding input_of
  run_has zero = start_has (λ b. b) 0 (row_of v) (sound v) (bit x) x (λ i. refl)
  run_has (suc p) =
      subst (λ (r : ℕ). HasBits (row_of v) (cells_at (suc p)) (round (row_of v) (input_of v key r) (machine_at p))) (sym (zero-add p))
      (clocks_have (row_of v) (sound v) (input_of v key p) (input_bits v key p) (row_of v).clocks (cells_at p) (machine_at p) (run_has p))

  -- THEOREM: the rounds over a key's and a block's bits give the bits of the registers
  pub plain : (p : ℕ) → x < 2 ^ width_of v → (i : ℕ) → i < width_of v
      → get_or (bits_at xor and (λ b. b) v (key_bits key) (tabulate (bit x) 0 (width_of v)) p) i 0 ≡ bit (registers_at v key 0 x p) i
  unfolding bits_at
  plain p h i q =
      block_has (λ b. b) 0 (row_of v) (sound v) (cells_at p) (machine_at p)
      (length_run xor and (λ b. b) v (round_keys xor 0 v (key_bits key)) p (tabulate (bit x) 0 (width_of v)) (length-tabulate (bit x) 0 (width_of v)))
      (run_fits (row_of v) (sound v) (input_of v key) (input_bits v key) 0 p (registers (row_of v) x) (registers_fit (row_of v) (sound v) x h))
      (run_has p) i q
      ∙ ap (λ (c : ℕ). bit (forward v key 0 c x) i) (sym (sub-zero p))
      ∙ ap (λ (y : ℕ). bit y i) (sym (at_later v key 0 x p (omega arith)))
