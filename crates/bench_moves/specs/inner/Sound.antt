-- Check 1 finds no fault in a lane, in a bench.
-- Assumes nothing.
use Rattle.std.specs.Prelude.{ℕ, ◌≡◌, false, Option}
use Rattle.bench.specs.declared.Loaded.{Loaded}
use Rattle.bench.specs.declared.Bench.{Bench}
use Rattle.bench.specs.Bench.{held_check}
use Rattle.bench_moves.specs.Moves.{bad_lane}

abbrev pub SoundLane : ℕ → Option Loaded → Type 0
SoundLane v l = bad_lane v l ≡ false

abbrev pub SoundBench : Bench → Type 0
SoundBench b = (held_check b).fault ≡ false
