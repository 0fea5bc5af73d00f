-- The bits that the code finds at the places of a register, and what its formulas make of them.
-- Assumes nothing.
use mathlib.Core.Path.{◌≡◌, refl, sym, ap, ap₂, subst, ◌∙◌}
use Prim.Native.Nat.{ℕ, ◌+◌, ◌-◌, ◌*◌, ◌/◌, ◌^◌, ◌<◌, ◌≤◌}
use native.Mathlib.Nat.{div-le_self, pow-le-pow_right}
use native.Mathlib.Omega.{arith}
use borrow.Author.Tests.{lt-ltb, le-ltb}
use Rattle.katan.specs.Counter.{rounds}
use Rattle.katan.specs.Clock.{fa, fb, registers, input_of}
use Rattle.katan.specs.Key.{key_number}
use Rattle.katan.specs.inner.Within.{Sound}
use Rattle.katan.specs.declared.Row.{Row}
use Rattle.katan.specs.declared.RoundInput.{RoundInput}
use Rattle.katan.proofs.Bits.{bit-shr, bit-mod}
use Rattle.katan.proofs.Undo.{sound}
use Rattle.katan_registers.specs.Inputs.{round_input}
use Rattle.katan_origin.specs.Chains.{xor_traced, and_traced, given, block_bit, place_at, clock_input, fa_at, fb_at}
use Rattle.katan_origin.specs.Origin.{last_clock}
use Rattle.katan_origin.specs.declared.chains.Clock.{Clock}
use Rattle.katan_origin.specs.declared.chains.Run.{Run}
use Rattle.katan_origin.specs.declared.chains.Traced.{Traced}
use Rattle.katan_origin.proofs.Formulas.{same_traced}
use Rattle.katan_origin.proofs.Followed.{fa_followed, fb_followed, place_few, fa_at_most, fb_at_most}

-- ---- the places of L1 lie in the block, on a row that is a variant's

pub row_sound : (run : Run) → Sound run.row
row_sound run = subst (λ (x : Row). Sound x) (sym run.is_row) (sound run.variant)

pub in_block : (row : Row) → Sound row → (i t : ℕ) → i ≤ row.x1 → row.len2 + (i - t) < 2 ^ 64
in_block row s i t h = omega (arith, s.top1, s.len1_fits, s.len2_fits)

-- the block's bits by their number in the block
module _ (row : Row) (x j : ℕ) where
  pub of_l1 : block_bit x (row.len2 + j) ≡ block_bit (registers row x).l1 j
  of_l1 = same_traced (sym (bit-shr x row.len2 j)) refl

  pub of_l2 : j < row.len2 → block_bit x j ≡ block_bit (registers row x).l2 j
  of_l2 h = same_traced (sym (bit-mod row.len2 x j h)) refl

-- ---- the bit at a place: one that entered, or one of the block

module _ (entered : ℕ → Traced) (l t i : ℕ) (a : Traced) where
  pub came_in : i < t → a ≡ entered (t - 1 - i) → a ≡ place_at entered l t i
  came_in h e = rw (lt-ltb i t h) e

  pub was_there : t ≤ i → a ≡ block_bit l (i - t) → a ≡ place_at entered l t i
  was_there h e = rw (le-ltb i t h) e

-- ---- at the places of a clock, and what the formulas make of them

module _ (clock : Clock) where
  abbrev run : Run
  run = clock.run.now

  abbrev t : ℕ
  t = clock.number.0

  abbrev key : ℕ
  key = key_number clock.run.now.key

  abbrev pub l1_at : ℕ → Traced
  l1_at i = place_at (fb_at run.variant key run.block) (registers run.row run.block).l1 t i

  abbrev pub l2_at : ℕ → Traced
  l2_at i = place_at (fa_at run.variant key run.block) (registers run.row run.block).l2 t i

  pub few1 : (i : ℕ) (a : Traced) → a ≡ l1_at i → a.count ≤ 6 ^ t
  few1 i a e = rw e (place_few _ _ t (fb_at_most run.variant key run.block) i)

  pub few2 : (i : ℕ) (a : Traced) → a ≡ l2_at i → a.count ≤ 6 ^ t
  few2 i a e = rw e (place_few _ _ t (fa_at_most run.variant key run.block) i)

  pub input_is : (u : RoundInput) → u ≡ round_input run.variant key (t / run.row.clocks) → u ≡ clock_input run.variant key t
  input_is u e =
      let early : t / run.row.clocks < rounds = omega (arith, clock.early, div-le_self t run.row.clocks) in
      e ∙ rw (lt-ltb (t / run.row.clocks) rounds early) (ap (λ (r : Row). input_of run.variant key (t / r.clocks)) run.is_row)

  module _ (u : RoundInput) (e : u ≡ clock_input run.variant key t) where
    pub fa_is : fa xor_traced and_traced run.row l1_at (given u.ir) (given u.ka) ≡ fa_at run.variant key run.block t
    fa_is =
        ap₂ (λ (r : Row) (w : RoundInput). fa xor_traced and_traced r (place_at (fb_at run.variant key run.block) (registers r run.block).l1 t) (given w.ir) (given w.ka)) run.is_row e
        ∙ sym (fa_followed run.variant key run.block t)

    pub fb_is : fb xor_traced and_traced run.row l2_at (given u.kb) ≡ fb_at run.variant key run.block t
    fb_is =
        ap₂ (λ (r : Row) (w : RoundInput). fb xor_traced and_traced r (place_at (fa_at run.variant key run.block) (registers r run.block).l2 t) (given w.kb)) run.is_row e
        ∙ sym (fb_followed run.variant key run.block t)

  -- the counts of six places fit a word together
  pub room : 6 * 6 ^ t < 2 ^ 64
  room = omega (arith, pow-le-pow_right {n = 6} (omega arith) {i = t} {j = last_clock} clock.early)

-- and so do those of both bits of a clock
pub room_for_both : (v key x t : ℕ) → t ≤ last_clock → (fa_at v key x t).count + (fb_at v key x t).count < 2 ^ 64
room_for_both v key x t h =
    omega (arith, pow-le-pow_right {n = 6} (omega arith) {i = t + 1} {j = last_clock + 1} (omega arith), fa_at_most v key x t, fb_at_most v key x t)
