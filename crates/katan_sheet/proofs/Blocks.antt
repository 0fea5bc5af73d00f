-- A block's bits and its registers' bits, by a number that each bit has.
-- Assumes nothing.
use mathlib.Core.Path.{◌≡◌, refl, sym, ap, ◌∙◌}
use mathlib.Core.Bool.{Bool, true, false}
use Prim.Native.Nat.{ℕ, ◌+◌, ◌-◌, ◌<◌}
use native.Mathlib.Omega.{arith}
use borrow.Author.Tests.{ltb-true, ltb-false}
use lib.Dec.{ltb}
use lib.ListN.{length, get_or}
use lib.Seq.{get_or-take, get_or-drop}
use Rattle.katan.specs.Bit.{bit, tabulate}
use Rattle.katan.specs.Clock.{block, registers}
use Rattle.katan.specs.inner.Within.{Sound, RegistersFit}
use Rattle.katan.specs.declared.Row.{Row}
use Rattle.katan.specs.declared.Registers.{Registers}
use Rattle.katan.proofs.Bits.{bit-mod, bit-shr, bit_below, bit_above}
use Rattle.katan.proofs.Shows.{Shows}
use Rattle.katan.proofs.Tables.{entry}
use Rattle.katan_sheet.specs.Cells.{Cells, cells, block_of}
use Rattle.katan_sheet.proofs.Lengths.{Sized, block_low, block_high}

-- h tells the number of a bit, and z stands past a list's end
module _ {B : Type 0} (h : B → ℕ) (z : B) (v : Row) (t : Sound v) where
  -- the cells have the registers' bits
  abbrev pub Has : Cells B → Registers → Type 0
  Has s g = Shows v (λ i. h (get_or s.l1 i z)) (λ i. h (get_or s.l2 i z)) g

  pub start_has : (f : ℕ → B) (x : ℕ) → ((i : ℕ) → h (f i) ≡ bit x i) → Has (cells v (tabulate f 0 v.n)) (registers v x)
  start_has f x e =
      let bits = tabulate f 0 v.n in
      record {
        shows1 = λ i q. ap h (get_or-drop v.len2 bits i z ∙ entry f v.n (v.len2 + i) z (omega (arith, t.both))) ∙ e (v.len2 + i) ∙ sym (bit-shr x v.len2 i);
        shows2 = λ i q. ap h (get_or-take v.len2 bits i z q ∙ entry f v.n i z (omega (arith, t.both))) ∙ e i ∙ sym (bit-mod v.len2 x i q);
      }

  -- and so has the block
  pub block_has : (s : Cells B) (g : Registers) → Sized v s → RegistersFit v g → Has s g → (i : ℕ) → i < v.n → h (get_or (block_of s) i z) ≡ bit (block v g) i
  block_has s g w f e i q = by_place (ltb i v.len2) refl
    where
      by_place : (b : Bool) → ltb i v.len2 ≡ b → h (get_or (block_of s) i z) ≡ bit (block v g) i
      by_place true c =
          let p = ltb-true i v.len2 c in
          ap h (block_low s i z (omega (arith, w.1))) ∙ e.shows2 i p ∙ sym (bit_below v.len2 g.l1 f.l2_fits i p)
      by_place false c =
          let p = ltb-false i v.len2 c in
          let j = i - v.len2 in
          let d : i ≡ length s.l2 + j = omega (arith, w.1) in
          let k : v.len2 + j ≡ i = omega arith in
          ap (λ (m : ℕ). h (get_or (block_of s) m z)) d ∙ ap h (block_high s j z) ∙ e.shows1 j (omega (arith, t.both))
          ∙ sym (bit_above v.len2 g.l1 f.l2_fits j) ∙ ap (bit (block v g)) k
