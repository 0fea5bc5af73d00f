-- What is claimed of the screen: it shows what the single reads answer, and after every list of calls the reference model's machines.
-- Assumes nothing.
use Rattle.std.specs.Prelude.{ℕ, ◌<◌, ◌≤◌, ◌≡◌, false, List, ◌↔◌, ◌⊎◌, length, get_or}
use Rattle.katan.specs.Bit.{bit}
use Rattle.katan.specs.Checks.{value, refused}
use Rattle.katan.specs.Machine.{registers_at}
use Rattle.katan.specs.Sizes.{lane_count}
use Rattle.bench.specs.declared.Reading.{Reading}
use Rattle.bench.specs.declared.Bench.{Bench}
use Rattle.bench.specs.Machine.{Machine, empty, loaded}
use Rattle.bench.specs.Calls.{Call, at}
use Rattle.bench.specs.Bench.{held_check, read_of}
use Rattle.bench.specs.Claim.{bench_after, machine_after}
use Rattle.bench_screen.specs.Screen.{screen_answer, screen_numbers}

-- a screen of bench b is answered, and of each lane, with its bit of the mask answered and the number written for it, P holds
pub record Shows (b : Bench) (m : ℕ) (out : List ℕ) (P : (i shown number : ℕ) → Type 0) : Type 0 where
  pub mask : ℕ
  pub answered : screen_answer b m out ≡ value mask
  pub each : (i : ℕ) → i < lane_count → P i (bit mask i) (get_or (screen_numbers b m out) i 0)

-- ---- beside the single reads

-- the single read of lane i is answered
pub record IsRead (b : Bench) (i : ℕ) : Type 0 where
  pub reading : Reading
  pub answer : read_of b i ≡ value (at reading)

pub record AsSingleRead (b : Bench) (m i shown number : ℕ) : Type 0 where
  -- the bit is 1 exactly when the lane is named and its single read is answered
  pub is_shown : (shown ≡ 1) ↔ ((bit m i ≡ 1) × IsRead b i)
  -- the number is then the register number of that read
  pub its_registers : (r : Reading) → shown ≡ 1 → read_of b i ≡ value (at r) → number ≡ r.registers
  -- a named lane is left out exactly when its single read gets 11
  pub left_out : bit m i ≡ 1 → (shown ≡ 0) ↔ (read_of b i ≡ refused 11)
  -- of a lane left out, and of one not named, the number is 0
  pub others : (shown ≡ 1 → ⊥) → (shown ≡ 0) × (number ≡ 0)

-- for every bench that passes check 1, every mask but 0, and an output of a number for each lane
abbrev pub SingleReads : Type 0
SingleReads = (b : Bench) → (held_check b).fault ≡ false → (m : ℕ) → 0 < m → (out : List ℕ) → length out ≡ lane_count → Shows b m out (AsSingleRead b m)

-- ---- after a list of calls

pub record AsMachine (v : ℕ) (x : Machine) (named shown number : ℕ) : Type 0 where
  -- a named lane is left out exactly when its machine is empty
  pub left_out : named ≡ 1 → (shown ≡ 0) ↔ (x ≡ empty)
  -- and shows otherwise the registers of its machine
  pub its_registers : named ≡ 1 → (key block q p : ℕ) → x ≡ loaded key block q p → (shown ≡ 1) × (number ≡ registers_at v key q block p)
  -- of a lane that is not named, or whose machine is empty, nothing
  pub others : (named ≡ 1 → ⊥) ⊎ (x ≡ empty) → (shown ≡ 0) × (number ≡ 0)

abbrev pub ShowsMachines : ℕ → List Call → ℕ → List ℕ → Type 0
ShowsMachines v calls m out = Shows (bench_after v calls).bench m out (λ i. AsMachine v (machine_after v calls i) (bit m i))

-- for every variant and list, every mask but 0, and an output of a number for each lane
abbrev pub ScreenAfterEveryList : Type 0
ScreenAfterEveryList =
    (v : ℕ) → 1 ≤ v → v ≤ 6 → (calls : List Call) (m : ℕ) → 0 < m → (out : List ℕ) → length out ≡ lane_count → ShowsMachines v calls m out
