use Rattle.std.proofs.Common.{◌≡◌, ◌-◌, ◌<◌, ◌≤◌, length, ◌∙◌, append-nil, arith, length-set, take_all}
use Rattle.katan.specs.Bit.{bytes_of}
use Rattle.katan_numbers.proofs.Written.{number_on}
use Rattle.katan_numbers.proofs.put_number.Goals as goal

pub loop-byte-preserved : goal.loop-byte-preserved
loop-byte-preserved c =
    let l = c.loop-byte in
    let h : l.byte-index < length l.out = omega (arith, c.loop-byte-test.true, l.auto.byte-index-end, l.invariant.0.1) in
    simp length-set ((omega arith, l.invariant.0.1), number_on (length l.out) l.byte-index l.rest l.out h h ∙ l.invariant.1)

pub returns : goal.returns
unfolding bytes_of
returns c =
    let l = c.loop-byte in
    let le : length l.out ≤ l.byte-index = omega (arith, c.loop-byte-test.false, l.auto.byte-index-end, l.invariant.0.1) in
    let z : length l.out - l.byte-index ≡ 0 = omega arith in
    simp (z, take_all l.byte-index l.out le, append-nil) at l.invariant.1
