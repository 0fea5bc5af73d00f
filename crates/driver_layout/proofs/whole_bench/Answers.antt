use Rattle.std.proofs.Common.{◌≡◌, ap, ◌∙◌, ℕ, ◌+◌, ◌*◌, ◌-◌, ◌≤◌, ◌<◌, arith, length, take, drop, get_or, length-set}
use Rattle.katan.specs.Sizes.{lane_count}
use Rattle.driver_layout.specs.Layout.{lane_length, lane_in, bench_in}
use Rattle.driver_layout.proofs.Turns.{bench_with, slots_on, slots_end}
use Rattle.driver_layout.proofs.whole_bench.Goals as goal

pub loop-i-preserved : goal.loop-i-preserved
loop-i-preserved c =
    let l = c.loop-i in
    let bytes = c.args.bytes.now in
    let at = 1 + lane_length * l.i in
    let h : l.i < length l.slot-items = omega arith in
    let q : l.i < lane_count = omega arith in
    let n : at + lane_length - at ≡ lane_length = omega arith in
    let next : 1 + lane_length * (l.i + 1) ≡ at + lane_length = omega arith in
    let e = c.lane_in.ensures ∙ ap (λ (k : ℕ). lane_in (take k (drop at bytes))) n in
    record { all_lanes = simp length-set l.invariant.all_lanes; so_far = rw next (slots_on lane_count l.i at l.slot-items bytes c.lane_in.result h q e ∙ l.invariant.so_far) }

pub returns : goal.returns
unfolding bench_in
returns c =
    let l = c.loop-i in
    let bytes = c.args.bytes.now in
    let h : length l.slot-items ≤ l.i = omega arith in
    let q : lane_count ≤ l.i = omega arith in
    ap (bench_with (get_or bytes 0 0)) (slots_end lane_count l.i l.slot-items _ (drop (1 + lane_length * l.i) bytes) h q l.invariant.so_far)
