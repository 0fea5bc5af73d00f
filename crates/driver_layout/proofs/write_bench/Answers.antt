use Rattle.std.proofs.Common.{◌≡◌, ◌∙◌, ◌+◌, ◌*◌, ◌-◌, ◌≤◌, ◌<◌, arith, length, length-set}
use Rattle.driver_layout.specs.Layout.{lane_length, bench_bytes}
use Rattle.driver_layout.proofs.Turns.{bench_start, lanes_on, lanes_end}
use Rattle.driver_layout.proofs.write_bench.Goals as goal

pub loop-i-preserved : goal.loop-i-preserved
loop-i-preserved c =
    let l = c.loop-i in
    let ss = c.args.bench.slots in
    let ys = c.put_lane.new.out in
    let len = length-set c.args.out.now 0 c.args.bench.variant in
    let at = 1 + lane_length * l.i in
    let h : l.i < length ss = omega arith in
    let q : at + lane_length ≤ length l.out = omega arith in
    let n : at + lane_length - at ≡ lane_length = omega arith in
    let m : length ys ≡ lane_length = omega arith in
    let next : 1 + lane_length * (l.i + 1) ≡ at + lane_length = omega arith in
    rw next (lanes_on l.i at ss l.out ys h q m (at + lane_length - at) n c.put_lane.ensures ∙ l.invariant)

pub returns : goal.returns
unfolding bench_bytes
returns c =
    let l = c.loop-i in
    let b = c.args.bench in
    let len = length-set c.args.out.now 0 c.args.bench.variant in
    let at = 1 + lane_length * l.i in
    let h : length b.slots ≤ l.i = omega arith in
    let q : length l.out ≤ at = omega arith in
    lanes_end l.i at b.slots l.out _ h q l.invariant ∙ bench_start b.variant b.slots c.args.out.now (omega (arith, c.requires))
