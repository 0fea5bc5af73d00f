-- What a driver's memory keeps: a bench or a link written down is read back as it was, so that the calls of a driver are the calls of a list.
-- Assumes nothing.
use Rattle.std.specs.Prelude.{ℕ, ◌^◌, ◌<◌, ◌≡◌, List, [], ◌∷◌, Option, Some, None, length}
use Rattle.katan.specs.Sizes.{lane_count}
use Rattle.bench_record.specs.Fields.{record_length}
use Rattle.bench.specs.declared.Loaded.{Loaded}
use Rattle.bench.specs.declared.Bench.{Bench}
use Rattle.bench.specs.declared.Link.{Link}
use Rattle.driver_layout.specs.Layout.{bench_length, bench_in, link_in, bench_bytes, link_bytes}

-- what holds of every bench and link of the code: the numbers fit their types, there are 64 lanes, a record has 40 bytes
abbrev pub LaneFits : Option Loaded → Type 0
LaneFits None = Unit {0}
LaneFits (Some h) = (h.key.low < 2 ^ 64) × (h.key.high < 2 ^ 16) × (h.registers < 2 ^ 64)

abbrev pub SlotsFit : List (Option Loaded) → Type 0
SlotsFit [] = Unit {0}
SlotsFit (l ∷ ls) = LaneFits l × SlotsFit ls

pub record BenchFits (b : Bench) : Type 0 where
  pub all_lanes : length b.slots ≡ lane_count
  pub lanes_fit : SlotsFit b.slots

pub record LinkFits (l : Link) : Type 0 where
  pub last_fits : l.last < 2 ^ 32
  pub total_fits : l.total < 2 ^ 32
  pub whole_record : length l.bytes ≡ record_length

-- over whatever bytes were there
abbrev pub BenchReadBack : Type 0
BenchReadBack = (b : Bench) (old : List ℕ) → BenchFits b → length old ≡ bench_length → bench_in (bench_bytes b old) ≡ b

abbrev pub LinkReadBack : Type 0
LinkReadBack = (l : Link) → LinkFits l → link_in (link_bytes l) ≡ l
