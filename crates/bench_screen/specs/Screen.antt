-- All lanes on the screen (document 02, (viii)): one read of every lane in a mask.
-- Assumes nothing.
use Rattle.std.specs.Prelude.{ℕ, List, [], ◌∷◌, eqb, get_or}
use Rattle.katan.specs.Bit.{bit, pick, tabulate, from_bits}
use Rattle.katan.specs.Checks.{Outcome, value, Check, checked, size_check}
use Rattle.katan.specs.Lent.{lent_after}
use Rattle.katan.specs.Sizes.{lane_count}
use Rattle.bench.specs.declared.Bench.{Bench}
use Rattle.bench.specs.Checks.{LaneView, empty_lane, loaded_lane}
use Rattle.bench.specs.Bench.{lanes_of, held_check}

-- ---- one lane, with its bit of the mask

-- the registers for a named lane that is loaded, 0 otherwise
unfoldable pub number_shown : ℕ → LaneView → ℕ
number_shown b empty_lane = 0
number_shown b (loaded_lane r) = pick (eqb b 1) r.registers 0

-- and its bit of the mask of named loaded lanes
unfoldable pub bit_shown : ℕ → LaneView → ℕ
bit_shown b empty_lane = 0
bit_shown b (loaded_lane r) = b

-- ---- all lanes

module _ (m : ℕ) (lanes : List LaneView) where
  -- bit i of the mask names lane i
  abbrev pub lane_number : ℕ → ℕ
  lane_number i = number_shown (bit m i) (get_or lanes i empty_lane)

  abbrev pub lane_bit : ℕ → ℕ
  lane_bit i = bit_shown (bit m i) (get_or lanes i empty_lane)

  -- a number for each lane
  unfoldable pub numbers_shown : List ℕ
  numbers_shown = tabulate lane_number 0 lane_count

  -- the mask of named loaded lanes
  unfoldable pub mask_shown : ℕ
  mask_shown = from_bits lane_bit lane_count

-- ---- the call

-- 8: the mask is 0
abbrev pub mask_check : ℕ → Check
mask_check m = record { number = 8; fault = eqb m 0 }

-- 1 of the bench, 2 of the output, 8
abbrev pub screen_checks : Bench → ℕ → List ℕ → List Check
screen_checks b m out = held_check b ∷ size_check lane_count out ∷ mask_check m ∷ []

unfoldable pub screen_answer : Bench → ℕ → List ℕ → Outcome ℕ
screen_answer b m out = checked (screen_checks b m out) (value (mask_shown m (lanes_of b)))

-- what the output holds afterwards: a refusal leaves it as it was
abbrev pub screen_numbers : Bench → ℕ → List ℕ → List ℕ
screen_numbers b m out = lent_after (λ x. numbers_shown m (lanes_of b)) (screen_answer b m out) out
