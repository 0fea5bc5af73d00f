-- The screen shows what the single reads answer, and after every list of calls the reference model's machines.
-- Assumes nothing.
use mathlib.Core.Path.{◌≡◌, refl, sym, ap, ap₂, ◌∙◌}
use mathlib.Core.Bool.{false}
use mathlib.Core.List.{List, [], ◌∷◌}
use mathlib.Core.Logic.{⊎_elim}
use Prim.Native.Nat.{ℕ, ◌<◌}
use native.Mathlib.Omega.{arith}
use lib.Dec.{eqb}
use lib.ListN.{length, get_or}
use borrow.Author.Tests.{eq-eqb, ne_eqb}
use Rattle.katan.specs.Bit.{bit}
use Rattle.katan.specs.Checks.{value, checked, size_check}
use Rattle.katan.specs.Machine.{registers_at}
use Rattle.katan.specs.Sizes.{lane_count}
use Rattle.katan.proofs.Bits.{bit_lt, bit_from_bits}
use Rattle.katan.proofs.Checked.{check_twice}
use Rattle.katan.proofs.Tables.{entry}
use Rattle.bench.specs.declared.Reading.{Reading}
use Rattle.bench.specs.declared.Bench.{Bench}
use Rattle.bench.specs.Machine.{Machine, empty, loaded}
use Rattle.bench.specs.Checks.{LaneView, empty_lane, loaded_lane, bench_check, lane_answer}
use Rattle.bench.specs.Model.{machine_view}
use Rattle.bench.specs.Bench.{lanes_of, held_check, read_of}
use Rattle.bench.specs.Claim.{bench_after, model_after, machine_after}
use Rattle.bench.proofs.Loops.{slot_at, read_of_lane}
use Rattle.bench.proofs.Follow.{same_views}
use Rattle.bench.proofs.Lists.{still_kept, every_list}
use Rattle.bench_screen.specs.Screen.{number_shown, bit_shown, lane_number, lane_bit, numbers_shown, mask_shown, mask_check, screen_answer, screen_numbers}
use Rattle.bench_screen.specs.Claim.{Shows, AsSingleRead, SingleReads, AsMachine, ScreenAfterEveryList}
use Rattle.bench_screen.proofs.Turns.{lane_bit_lt}

-- ---- lane by lane

module _ (m : ℕ) (lanes : List LaneView) (i : ℕ) (h : i < lane_count) where
  its_bit : bit (mask_shown m lanes) i ≡ bit_shown (bit m i) (get_or lanes i empty_lane)
  unfolding mask_shown
  its_bit = bit_from_bits (lane_bit m lanes) lane_count (λ j q. lane_bit_lt m lanes j) i h

  its_number : get_or (numbers_shown m lanes) i 0 ≡ number_shown (bit m i) (get_or lanes i empty_lane)
  unfolding numbers_shown
  its_number = entry (lane_number m lanes) lane_count i 0 h

-- where 1 has been looked for before, nothing changes
pub looked_before : (b : Bench) (m : ℕ) (out : List ℕ) → checked (held_check b ∷ []) (screen_answer b m out) ≡ screen_answer b m out
unfolding screen_answer
looked_before b m out = check_twice (held_check b) (size_check lane_count out ∷ mask_check m ∷ []) (value (mask_shown m (lanes_of b)))

-- a call with no fault is answered, and shows each lane
module _ (b : Bench) (sound : (held_check b).fault ≡ false) (m : ℕ) (some : 0 < m) (out : List ℕ) (len : length out ≡ lane_count) where
  none : eqb m 0 ≡ false
  none = ne_eqb m 0 (λ e. omega arith)

  shows : (P : (i shown number : ℕ) → Type 0)
      → ((i : ℕ) → i < lane_count → (shown number : ℕ) → shown ≡ bit_shown (bit m i) (get_or (lanes_of b) i empty_lane) → number ≡ number_shown (bit m i) (get_or (lanes_of b) i empty_lane) → P i shown number)
      → Shows b m out P
  unfolding screen_answer
  shows P f =
      record {
        mask = mask_shown m (lanes_of b);
        answered = rw (sound, eq-eqb _ _ len, none);
        each =
            λ i h.
            f i h (bit (mask_shown m (lanes_of b)) i) (get_or (screen_numbers b m out) i 0) (its_bit m (lanes_of b) i h)
            (rw (sound, eq-eqb _ _ len, none) (its_number m (lanes_of b) i h));
      }

-- ---- beside the single reads

module _ (b : Bench) (m i : ℕ) where
  beside : (x : LaneView) → read_of b i ≡ lane_answer x → (shown number : ℕ) → shown ≡ bit_shown (bit m i) x → number ≡ number_shown (bit m i) x → AsSingleRead b m i shown number
  unfolding lane_answer bit_shown number_shown
  beside empty_lane e shown number f g =
      record {
        is_shown = (λ p. absurd (omega (arith, f, p)), λ p. let a = p.1.answer in let z : ◌≡◌ {A = ℕ} 0 1 = cc in absurd (omega arith));
        its_registers = λ r p a. absurd (omega (arith, f, p));
        left_out = λ p. (λ q. e, λ q. f);
        others = λ p. (f, g);
      }
  beside (loaded_lane r) e shown number f g =
      let two = bit_lt m i in
      record {
        is_shown = (λ p. (sym f ∙ p, record { reading = r; answer = e }), λ p. f ∙ p.0);
        its_registers = λ s p a. let q : r ≡ s = cc in g ∙ rw (eq-eqb _ _ (sym f ∙ p)) (ap (λ (y : Reading). y.registers) q);
        left_out = λ p. (λ q. absurd (omega (arith, f, p, q)), λ a. let z : ◌≡◌ {A = ℕ} 0 1 = cc in absurd (omega arith));
        others = λ p. (omega (arith, f, two, p), g ∙ rw (ne_eqb _ _ (λ q. p (f ∙ q))));
      }

-- THEOREM: for every bench that passes check 1, every mask and lane, the screen shows what the single read answers
pub single_reads : SingleReads
single_reads b sound m some out len = shows b sound m some out len (AsSingleRead b m) (λ i h. beside b m i (get_or (lanes_of b) i empty_lane) (read_of_lane b i sound h))

-- ---- after every list of calls

module _ (v : ℕ) where
  of_machine : (x : Machine) (named shown number : ℕ) → named < 2 → shown ≡ bit_shown named (machine_view v x) → number ≡ number_shown named (machine_view v x) → AsMachine v x named shown number
  unfolding machine_view bit_shown number_shown
  of_machine empty named shown number two f g =
      record {
        left_out = λ n. (λ z. refl, λ e. f);
        its_registers = λ n key block q p e. let z : ◌≡◌ {A = ℕ} 0 1 = cc in absurd (omega arith);
        others = λ o. (f, g);
      }
  of_machine (loaded key block q p) named shown number two f g =
      record {
        left_out = λ n. (λ z. absurd (omega (arith, f, n, z)), λ e. let z : ◌≡◌ {A = ℕ} 0 1 = cc in absurd (omega arith));
        its_registers =
            λ n key' block' q' p' e.
            let same : registers_at v key q block p ≡ registers_at v key' q' block' p' = cc in
            (f ∙ n, g ∙ rw (eq-eqb _ _ n) same);
        others = ⊎_elim (λ n. (omega (arith, f, two, n), g ∙ rw (ne_eqb _ _ n))) (λ e. let z : ◌≡◌ {A = ℕ} 0 1 = cc in absurd (omega arith));
      }

-- THEOREM: after every list of calls the screen shows the registers of the reference model's machines, and leaves out exactly the empty ones
pub screen_after_every_list : ScreenAfterEveryList
screen_after_every_list v least most calls m some out len =
    let k = still_kept v calls in
    let b = (bench_after v calls).bench in
    let views = same_views v b.slots (model_after v calls).machines k.lanes in
    let sound : (held_check b).fault ≡ false
    = ap₂ (λ (w : ℕ) (xs : List LaneView). (bench_check w xs).fault) k.variant views ∙ (every_list v least most calls).no_check_1 in
    shows b sound m some out len (λ i. AsMachine v (machine_after v calls i) (bit m i))
    (λ i h shown number f g.
    let x = slot_at b.slots i ∙ (every_list v least most calls).same_lanes i h in
    of_machine v (machine_after v calls i) (bit m i) shown number (bit_lt m i) (f ∙ ap (bit_shown (bit m i)) x) (g ∙ ap (number_shown (bit m i)) x))
