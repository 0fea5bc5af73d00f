-- The bench and the link that bytes say fit.
-- Assumes nothing.
use mathlib.Core.Path.{◌≡◌, refl, ap}
use mathlib.Core.Bool.{Bool, true, false}
use mathlib.Core.List.{List}
use Prim.Native.Nat.{ℕ, zero, suc, ◌^◌, ◌<◌}
use native.Mathlib.Omega.{arith}
use lib.Dec.{eqb}
use lib.ListN.{length, get_or, take, drop}
use Rattle.katan.specs.Bit.{pick, AreBytes}
use Rattle.katan.specs.Sizes.{lane_count, word_bytes, key_bytes}
use Rattle.katan.proofs.Tables.{length-tabulate}
use Rattle.bench_record.specs.Fields.{record_length, part}
use Rattle.bench_record.specs.Codec.{record_in}
use Rattle.bench_record.proofs.Parts.{take-bytes, drop-bytes, part_lt}
use Rattle.std.proofs.Common.{Some, None}
use Rattle.driver_layout.specs.Layout.{number_bytes, state_place, key_start, registers_start, lane_length, lanes_start, last_start, total_start, record_start, empty_state, loaded_in, lane_in, slots_in, bench_in, link_in}
use Rattle.driver_layout.specs.ReadBack.{LaneFits, SlotsFit, BenchFits, LinkFits}

-- ---- a lane

module _ (s : List ℕ) (h : AreBytes s) where
  loaded_fits : LaneFits (Some (loaded_in s))
  unfolding loaded_in
  loaded_fits =
      let key : part s key_start key_bytes < 2 ^ 80 = part_lt s h key_start key_bytes in
      (omega arith, omega arith, part_lt s h registers_start word_bytes)

  either_fits : (empty : Bool) → LaneFits (pick empty None (Some (loaded_in s)))
  either_fits true = tt
  either_fits false = loaded_fits

  lane_fits : LaneFits (lane_in s)
  unfolding lane_in
  lane_fits = either_fits (eqb (get_or s state_place 0) empty_state)

-- ---- the lanes

slots_fit : (n : ℕ) (s : List ℕ) → AreBytes s → SlotsFit (slots_in n s)
unfolding slots_in
slots_fit zero s h = tt
slots_fit (suc n) s h = (lane_fits (take lane_length s) (take-bytes lane_length s h), slots_fit n (drop lane_length s) (drop-bytes s h lane_length))

slots_count : (n : ℕ) (s : List ℕ) → length (slots_in n s) ≡ n
unfolding slots_in
slots_count zero s = refl
slots_count (suc n) s = ap suc (slots_count n (drop lane_length s))

pub bench_in_fits : (s : List ℕ) → AreBytes s → BenchFits (bench_in s)
unfolding bench_in
bench_in_fits s h =
    record { all_lanes = slots_count lane_count (drop lanes_start s); lanes_fit = slots_fit lane_count (drop lanes_start s) (drop-bytes s h lanes_start) }

-- ---- the link

pub link_in_fits : (s : List ℕ) → AreBytes s → LinkFits (link_in s)
unfolding link_in record_in
link_in_fits s h =
    record {
      last_fits = part_lt s h last_start number_bytes;
      total_fits = part_lt s h total_start number_bytes;
      whole_record = length-tabulate (λ (i : ℕ). get_or (take record_length (drop record_start s)) i 0) 0 record_length;
    }
