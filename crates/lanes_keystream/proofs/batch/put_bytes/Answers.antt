use mathlib.Core.Path.{◌≡◌, sym, ◌∙◌}
use Prim.Native.Nat.{ℕ, ◌+◌, ◌-◌, ◌*◌, ◌<◌, ◌≤◌}
use native.Mathlib.Nat.{mul-le-mul}
use native.Mathlib.Omega.{arith}
use borrow.Author.Rules.{rules}
use lib.ListN.{length, get_or}
use Rattle.katan.specs.Sizes.{lane_count}
use Rattle.katan_numbers.proofs.Written.{in_bytes}
use Rattle.lanes_keystream.specs.inner.Batch.{batch_length}
use Rattle.lanes_keystream.proofs.Places.{word_on}
use Rattle.lanes_keystream.proofs.batch.put_bytes.Goals as goal

-- a word has room where block i starts
room : (size i : ℕ) → size ≤ 8 → i < lane_count → size * i + 8 ≤ batch_length
room size i h q =
    let r : i ≤ 63 = omega arith in
    omega (arith, mul-le-mul {n₁ = size} {m₁ = i} {n₂ = 8} {m₂ = 63} h r)

pub loop-i-init : goal.loop-i-init
loop-i-init c = (search rules, λ j q. absurd (omega arith))

pub overflow_mul-at : goal.overflow_mul-at
overflow_mul-at c =
    let i = c.loop-i.i in
    record { fits = omega (arith, room c.args.size i c.requires.1 (omega arith)) }

pub overflow_add-end : goal.overflow_add-end
overflow_add-end c =
    let i = c.loop-i.i in
    record { fits = omega (arith, room c.args.size i c.requires.1 (omega arith)) }

pub slice_bounds-put_number-end : goal.slice_bounds-put_number-end
slice_bounds-put_number-end c =
    let i = c.loop-i.i in
    omega (arith, room c.args.size i c.requires.1 (omega arith))

pub loop-i-preserved : goal.loop-i-preserved
loop-i-preserved c =
    let l = c.loop-i in
    let a = c.args in
    let at = a.size * l.i in
    let n : at + 8 - at ≡ 8 = omega arith in
    let r = room a.size l.i c.requires.1 (omega arith) in
    let m : length c.put_number.new.out ≡ 8 = omega arith in
    (omega arith, word_on a.size 8 l.i (at + 8 - at) (λ j. get_or a.blocks.now j 0) l.out c.put_number.new.out c.requires.1 (omega arith) n (in_bytes 8 (get_or a.blocks.now l.i 0) c.put_number.ensures (omega arith)) l.invariant.1)

pub shape_of-out : goal.shape_of-out
shape_of-out c = c.loop-i.invariant.0 ∙ sym c.requires.3

pub returns : goal.returns
returns c =
    let l = c.loop-i in
    let e : l.i ≡ lane_count = omega arith in
    rw (sym e) l.invariant.1
