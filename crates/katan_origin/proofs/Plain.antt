-- The plain clocks: they are the machine's, and what stands in the registers after each is what the chains find.
-- Assumes nothing.
use mathlib.Core.Path.{◌≡◌, refl, sym, ap, ap₂, ◌∙◌}
use mathlib.Core.Bool.{Bool, true, false}
use Prim.Native.Nat.{ℕ, zero, suc, ◌+◌, ◌-◌, ◌*◌, ◌<◌, ◌≤◌}
use native.Mathlib.Nat.{add-zero, add-suc, zero-add, mul-zero, mul-suc, sub-zero, mul-add-div, div-eq_of_lt}
use native.Mathlib.Omega.{arith}
use borrow.Author.Tests.{lt-ltb, le-ltb, ltb-true, ltb-false}
use lib.Dec.{ltb}
use Rattle.katan.specs.Bit.{bit, xor, and}
use Rattle.katan.specs.Clock.{clock, clocks, run, block, registers, input_of}
use Rattle.katan.specs.Machine.{registers_at}
use Rattle.katan.specs.Variant.{row_of}
use Rattle.katan.specs.declared.Registers.{Registers}
use Rattle.katan.proofs.Bits.{fa_map, fb_map}
use Rattle.katan.proofs.Keys.{input_bits}
use Rattle.katan.proofs.Positions.{at_later}
use Rattle.katan.proofs.Shows.{Shows, clock_shows}
use Rattle.katan.proofs.Undo.{sound}
use Rattle.katan_origin.specs.Chains.{xor_traced, and_traced, given, block_bit, place_at, clock_input, fa_at, fb_at}
use Rattle.katan_origin.specs.Claim.{after_clocks}
use Rattle.katan_origin.specs.declared.chains.Traced.{Traced}
use Rattle.katan_origin.proofs.Followed.{fa_followed, fb_followed}

-- ---- whole rounds

module _ (v key x : ℕ) where
  module _ (p : ℕ) where
    -- the clocks of round p take its input
    input_of_round : (c : ℕ) → c < (row_of v).clocks → clock_input v key ((row_of v).clocks * p + c) ≡ input_of v key p
    input_of_round c h =
        ap (input_of v key) (mul-add-div {m = (row_of v).clocks} (sound v).some p c ∙ ap (λ (k : ℕ). p + k) (div-eq_of_lt h) ∙ add-zero p)

    in_round : (c : ℕ) → c ≤ (row_of v).clocks → after_clocks v key x ((row_of v).clocks * p + c) ≡ clocks (row_of v) (input_of v key p) c (after_clocks v key x ((row_of v).clocks * p))
    in_round zero h = ap (after_clocks v key x) (add-zero ((row_of v).clocks * p))
    in_round (suc c) h =
        ap (after_clocks v key x) (add-suc ((row_of v).clocks * p) c)
        ∙ ap₂ (clock (row_of v)) (input_of_round c h) (in_round c (omega arith))

  after_rounds : (p : ℕ) → after_clocks v key x ((row_of v).clocks * p) ≡ run (row_of v) (input_of v key) 0 p (registers (row_of v) x)
  after_rounds zero = ap (after_clocks v key x) (mul-zero (row_of v).clocks)
  after_rounds (suc p) =
      ap (after_clocks v key x) (mul-suc (row_of v).clocks p)
      ∙ in_round p (row_of v).clocks (omega arith)
      ∙ ap₂ (λ (r : ℕ) (s : Registers). clocks (row_of v) (input_of v key r) (row_of v).clocks s) (sym (zero-add p)) (after_rounds p)

  -- THEOREM: the registers at a position
  pub positions : (p : ℕ) → block (row_of v) (after_clocks v key x ((row_of v).clocks * p)) ≡ registers_at v key 0 x p
  positions p =
      ap (block (row_of v)) (after_rounds p)
      ∙ ap (λ (c : ℕ). block (row_of v) (run (row_of v) (input_of v key) 0 c (registers (row_of v) x))) (sym (sub-zero p))
      ∙ sym (at_later v key 0 x p (omega arith))

-- ---- a place one clock later

module _ (e : ℕ → Traced) (l t : ℕ) where
  at_first : (i : ℕ) → (place_at e l 0 i).bit ≡ bit l i
  at_first i = rw (le-ltb i 0 (omega arith)) (ap (bit l) (sub-zero i))

  newest : place_at e l (suc t) 0 ≡ e t
  newest = let d : suc t - 1 - 0 ≡ t = omega arith in rw (lt-ltb 0 (suc t) (omega arith)) (ap e d)

  moved_up : (i : ℕ) → place_at e l (suc t) (suc i) ≡ place_at e l t i
  moved_up i = by_age (ltb i t) refl
    where
      by_age : (b : Bool) → ltb i t ≡ b → place_at e l (suc t) (suc i) ≡ place_at e l t i
      by_age true q =
          let h = ltb-true i t q in
          let d : suc t - 1 - suc i ≡ t - 1 - i = omega arith in
          rw (lt-ltb (suc i) (suc t) (omega arith), lt-ltb i t h) (ap e d)
      by_age false q =
          let h = ltb-false i t q in
          let d : suc i - suc t ≡ i - t = omega arith in
          rw (le-ltb (suc i) (suc t) (omega arith), le-ltb i t h) (ap (block_bit l) d)

module _ (v key x : ℕ) where
  abbrev found1 : (t i : ℕ) → Traced
  found1 t i = place_at (fb_at v key x) (registers (row_of v) x).l1 t i

  abbrev found2 : (t i : ℕ) → Traced
  found2 t i = place_at (fa_at v key x) (registers (row_of v) x).l2 t i

  -- THEOREM: what stands in the registers is what the chains find
  pub shows : (t : ℕ) → Shows (row_of v) (λ i. (found1 t i).bit) (λ i. (found2 t i).bit) (after_clocks v key x t)
  shows zero =
      record {
        shows1 = λ i q. at_first (fb_at v key x) (registers (row_of v) x).l1 0 i;
        shows2 = λ i q. at_first (fa_at v key x) (registers (row_of v) x).l2 0 i;
      }
  shows (suc t) =
      clock_shows (row_of v) (sound v) (clock_input v key t) (input_bits v key _) (after_clocks v key x t) _ _ _ _ (shows t)
      (ap (λ (a : Traced). a.bit) (newest (fb_at v key x) (registers (row_of v) x).l1 t ∙ fb_followed v key x t)
      ∙ fb_map xor_traced and_traced xor and (λ a. a.bit) (λ p q. refl) (λ p q. refl) (row_of v) (found2 t) (given (clock_input v key t).kb))
      (ap (λ (a : Traced). a.bit) (newest (fa_at v key x) (registers (row_of v) x).l2 t ∙ fa_followed v key x t)
      ∙ fa_map xor_traced and_traced xor and (λ a. a.bit) (λ p q. refl) (λ p q. refl) (row_of v) (found1 t) (given (clock_input v key t).ir) (given (clock_input v key t).ka))
      (λ i q. ap (λ (a : Traced). a.bit) (moved_up (fb_at v key x) (registers (row_of v) x).l1 t i))
      (λ i q. ap (λ (a : Traced). a.bit) (moved_up (fa_at v key x) (registers (row_of v) x).l2 t i))

  -- and what enters them is fa and fb
  pub fa_enters : (t : ℕ) → (fa_at v key x t).bit ≡ bit (after_clocks v key x (suc t)).l2 0
  fa_enters t =
      ap (λ (a : Traced). a.bit) (sym (newest (fa_at v key x) (registers (row_of v) x).l2 t)) ∙ (shows (suc t)).shows2 0 (omega (arith, (sound v).top2))

  pub fb_enters : (t : ℕ) → (fb_at v key x t).bit ≡ bit (after_clocks v key x (suc t)).l1 0
  fb_enters t =
      ap (λ (a : Traced). a.bit) (sym (newest (fb_at v key x) (registers (row_of v) x).l1 t)) ∙ (shows (suc t)).shows1 0 (omega (arith, (sound v).top1))
