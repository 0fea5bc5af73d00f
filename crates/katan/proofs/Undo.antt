-- The way back undoes clocks, rounds and runs, and they undo it, for every row of the table.
-- Assumes nothing.
use mathlib.Core.Path.{◌≡◌, refl, sym, ap, ap₂, ◌∙◌}
use Prim.Native.Nat.{ℕ, zero, suc, ◌+◌, ◌-◌, ◌*◌, ◌/◌, ◌^◌, ◌<◌}
use native.Mathlib.Nat.{mod-lt, add_comm, add-zero, add-suc, add_assoc}
use native.Mathlib.Omega.{arith}
use lib.Pow.{pow_pos}
use lib.ListN.{get_or}
use Rattle.katan.specs.Bit.{bit, xor, and}
use Rattle.katan.specs.Clock.{fa, fb, fa_rest, fb_rest, shift_in, clock, unclock, clocks, unclocks, round, unround, run, unrun}
use Rattle.katan.specs.Variant.{row32, rows, row_of}
use Rattle.katan.specs.inner.Within.{Sound, Bits, RegistersFit}
use Rattle.katan.specs.declared.Row.{Row}
use Rattle.katan.specs.declared.Registers.{Registers}
use Rattle.katan.specs.declared.RoundInput.{RoundInput}
use Rattle.katan.proofs.Bits.{bit_lt, xor-bit, fa_bit, fb_bit, fa_rest_bit, fb_rest_bit}
use Rattle.katan.proofs.Shift.{in_lowest, in_out, out_in, out_lt, formula_out}

-- ---- the rows of the table

row_sound : (i : ℕ) → Sound (get_or rows i row32)
row_sound zero = omega arith
row_sound (suc zero) = omega arith
row_sound (suc (suc zero)) = omega arith
row_sound (suc (suc (suc zero))) = omega arith
row_sound (suc (suc (suc (suc zero)))) = omega arith
row_sound (suc (suc (suc (suc (suc zero))))) = omega arith
row_sound (suc (suc (suc (suc (suc (suc i)))))) = omega arith

pub sound : (v : ℕ) → Sound (row_of v)
sound v = row_sound (v - 1)

-- ---- bits of any kind: a formula sees only those of its register, and its rest only the lower ones

module _ {B : Type 0} (◌⊕◌ ◌⊙◌ : B → B → B) (v : Row) (t : Sound v) (f g : ℕ → B) where
  pub fa_rest_same : (ir ka : B) → ((i : ℕ) → i < v.x1 → f i ≡ g i) → fa_rest ◌⊕◌ ◌⊙◌ v f ir ka ≡ fa_rest ◌⊕◌ ◌⊙◌ v g ir ka
  fa_rest_same ir ka h = cc (h v.x2 t.x2_in, h v.x3 t.x3_in, h v.x4 t.x4_in, h v.x5 t.x5_in)

  pub fb_rest_same : (kb : B) → ((i : ℕ) → i < v.y1 → f i ≡ g i) → fb_rest ◌⊕◌ ◌⊙◌ v f kb ≡ fb_rest ◌⊕◌ ◌⊙◌ v g kb
  fb_rest_same kb h = cc (h v.y2 t.y2_in, h v.y3 t.y3_in, h v.y4 t.y4_in, h v.y5 t.y5_in, h v.y6 t.y6_in)

  pub fa_same : (ir ka : B) → ((i : ℕ) → i < v.len1 → f i ≡ g i) → fa ◌⊕◌ ◌⊙◌ v f ir ka ≡ fa ◌⊕◌ ◌⊙◌ v g ir ka
  fa_same ir ka h = ap₂ ◌⊕◌ (h v.x1 (omega (arith, t.top1))) (fa_rest_same ir ka (λ i q. h i (omega (arith, t.top1))))

  pub fb_same : (kb : B) → ((i : ℕ) → i < v.len2 → f i ≡ g i) → fb ◌⊕◌ ◌⊙◌ v f kb ≡ fb ◌⊕◌ ◌⊙◌ v g kb
  fb_same kb h = ap₂ ◌⊕◌ (h v.y1 (omega (arith, t.top2))) (fb_rest_same kb (λ i q. h i (omega (arith, t.top2))))

-- ---- a clock

abbrev pair : ℕ → ℕ → Registers
pair x y = record { l1 = x; l2 = y }

module _ (v : Row) (t : Sound v) (u : RoundInput) (b : Bits u) (s : Registers) (f : RegistersFit v s) where
  pub l1_in : s.l1 < 2 ^ (v.x1 + 1)
  l1_in = rw t.top1 f.l1_fits

  pub l2_in : s.l2 < 2 ^ (v.y1 + 1)
  l2_in = rw t.top2 f.l2_fits

  unclock-clock : unclock v u (clock v u s) ≡ s
  unclock-clock =
      let a-bit = fa_bit v s.l1 b.ir_bit b.ka_bit in
      let b_bit = fb_bit v s.l2 b.kb_bit in
      rw (← t.top1, ← t.top2)
      (ap₂ pair
      (out_in v.x1 (λ l. fa_rest xor and v l u.ir u.ka) (λ p q h. fa_rest_same xor and v t p q u.ir u.ka h) (λ l. fa_rest_bit v l b.ir_bit b.ka_bit)
      s.l1 (fb xor and v (bit s.l2) u.kb) _ (rw add_comm l1_in) b_bit (in_lowest v.y1 s.l2 _ a-bit))
      (out_in v.y1 (λ l. fb_rest xor and v l u.kb) (λ p q h. fb_rest_same xor and v t p q u.kb h) (λ l. fb_rest_bit v l b.kb_bit)
      s.l2 (fa xor and v (bit s.l1) u.ir u.ka) _ (rw add_comm l2_in) a-bit (in_lowest v.x1 s.l1 _ b_bit)))

  clock-unclock : clock v u (unclock v u s) ≡ s
  clock-unclock =
      rw (← t.top1, ← t.top2)
      (ap₂ pair
      (ap (shift_in (v.x1 + 1) (unclock v u s).l1) (formula_out v.y1 (λ l. fb_rest xor and v l u.kb) (λ p q h. fb_rest_same xor and v t p q u.kb h) (λ l. fb_rest_bit v l b.kb_bit) s.l2 (bit s.l1 0) l2_in (bit_lt s.l1 0))
      ∙ in_out v.x1 s.l1 _ l1_in)
      (ap (shift_in (v.y1 + 1) (unclock v u s).l2) (formula_out v.x1 (λ l. fa_rest xor and v l u.ir u.ka) (λ p q h. fa_rest_same xor and v t p q u.ir u.ka h) (λ l. fa_rest_bit v l b.ir_bit b.ka_bit) s.l1 (bit s.l2 0) l1_in (bit_lt s.l2 0))
      ∙ in_out v.y1 s.l2 _ l2_in))

  pub unclock_fits : RegistersFit v (unclock v u s)
  unclock_fits =
      record {
        l1_fits = rw (← t.top1) (out_lt v.x1 s.l1 _ l1_in (xor-bit (bit_lt s.l2 0) (fa_rest_bit v (s.l1 / 2) b.ir_bit b.ka_bit)));
        l2_fits = rw (← t.top2) (out_lt v.y1 s.l2 _ l2_in (xor-bit (bit_lt s.l1 0) (fb_rest_bit v (s.l2 / 2) b.kb_bit)));
      }

pub clock_fits : (v : Row) (u : RoundInput) (s : Registers) → RegistersFit v (clock v u s)
clock_fits v u s =
    record {
      l1_fits = mod-lt (s.l1 * 2 + fb xor and v (bit s.l2) u.kb) (pow_pos v.len1);
      l2_fits = mod-lt (s.l2 * 2 + fa xor and v (bit s.l1) u.ir u.ka) (pow_pos v.len2);
    }

-- ---- clocks, runs

module _ (v : Row) (t : Sound v) where
  module _ (u : RoundInput) (b : Bits u) where
    pub clocks_fit : (c : ℕ) (s : Registers) → RegistersFit v s → RegistersFit v (clocks v u c s)
    clocks_fit zero s f = f
    clocks_fit (suc c) s f = clock_fits v u (clocks v u c s)

    pub unclocks_fit : (c : ℕ) (s : Registers) → RegistersFit v s → RegistersFit v (unclocks v u c s)
    unclocks_fit zero s f = f
    unclocks_fit (suc c) s f = unclocks_fit c (unclock v u s) (unclock_fits v t u b s f)

    unclocks-clocks : (c : ℕ) (s : Registers) → RegistersFit v s → unclocks v u c (clocks v u c s) ≡ s
    unclocks-clocks zero s f = refl
    unclocks-clocks (suc c) s f =
        ap (unclocks v u c) (unclock-clock v t u b (clocks v u c s) (clocks_fit c s f)) ∙ unclocks-clocks c s f

    clocks-unclocks : (c : ℕ) (s : Registers) → RegistersFit v s → clocks v u c (unclocks v u c s) ≡ s
    clocks-unclocks zero s f = refl
    clocks-unclocks (suc c) s f =
        ap (clock v u) (clocks-unclocks c (unclock v u s) (unclock_fits v t u b s f)) ∙ clock-unclock v t u b s f

  module _ (u : ℕ → RoundInput) (b : (r : ℕ) → Bits (u r)) (p : ℕ) where
    pub run_fits : (c : ℕ) (s : Registers) → RegistersFit v s → RegistersFit v (run v u p c s)
    run_fits zero s f = f
    run_fits (suc c) s f = clocks_fit (u (p + c)) (b (p + c)) v.clocks (run v u p c s) (run_fits c s f)

    pub unrun_fits : (c : ℕ) (s : Registers) → RegistersFit v s → RegistersFit v (unrun v u p c s)
    unrun_fits zero s f = f
    unrun_fits (suc c) s f = unrun_fits c (unround v (u (p + c)) s) (unclocks_fit (u (p + c)) (b (p + c)) v.clocks s f)

    pub unrun-run : (c : ℕ) (s : Registers) → RegistersFit v s → unrun v u p c (run v u p c s) ≡ s
    unrun-run zero s f = refl
    unrun-run (suc c) s f =
        ap (unrun v u p c) (unclocks-clocks (u (p + c)) (b (p + c)) v.clocks (run v u p c s) (run_fits c s f)) ∙ unrun-run c s f

    pub run-unrun : (c : ℕ) (s : Registers) → RegistersFit v s → run v u p c (unrun v u p c s) ≡ s
    run-unrun zero s f = refl
    run-unrun (suc c) s f =
        ap (round v (u (p + c))) (run-unrun c (unround v (u (p + c)) s) (unclocks_fit (u (p + c)) (b (p + c)) v.clocks s f))
        ∙ clocks-unclocks (u (p + c)) (b (p + c)) v.clocks s f

-- c + d rounds are c rounds and then d
module _ (v : Row) (u : ℕ → RoundInput) (p c : ℕ) where
  pub run_add : (d : ℕ) (s : Registers) → run v u p (c + d) s ≡ run v u (p + c) d (run v u p c s)
  run_add zero s = ap (λ (n : ℕ). run v u p n s) (add-zero c)
  run_add (suc d) s =
      ap (λ (n : ℕ). run v u p n s) (add-suc c d)
      ∙ ap₂ (λ (n : ℕ) (x : Registers). round v (u n) x) (sym (add_assoc p c d)) (run_add d s)

  pub unrun_add : (d : ℕ) (s : Registers) → unrun v u p (c + d) s ≡ unrun v u p c (unrun v u (p + c) d s)
  unrun_add zero s = ap (λ (n : ℕ). unrun v u p n s) (add-zero c)
  unrun_add (suc d) s =
      ap (λ (n : ℕ). unrun v u p n s) (add-suc c d)
      ∙ ap (λ (n : ℕ). unrun v u p (c + d) (unround v (u n) s)) (sym (add_assoc p c d))
      ∙ unrun_add d (unround v (u (p + c + d)) s)

-- a run depends on its inputs only at its rounds
module _ (v : Row) (u w : ℕ → RoundInput) (p : ℕ) where
  pub run_same : (c : ℕ) (s : Registers) → ((i : ℕ) → i < c → u (p + i) ≡ w (p + i)) → run v u p c s ≡ run v w p c s
  run_same zero s h = refl
  run_same (suc c) s h = ap₂ (round v) (h c (omega arith)) (run_same c s (λ i q. h i (omega arith)))

  pub unrun_same : (c : ℕ) (s : Registers) → ((i : ℕ) → i < c → u (p + i) ≡ w (p + i)) → unrun v u p c s ≡ unrun v w p c s
  unrun_same zero s h = refl
  unrun_same (suc c) s h =
      ap (λ (x : RoundInput). unrun v u p c (unround v x s)) (h c (omega arith)) ∙ unrun_same c (unround v (w (p + c)) s) (λ i q. h i (omega arith))
