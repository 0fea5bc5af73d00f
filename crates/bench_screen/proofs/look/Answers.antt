use Rattle.std.specs.Prelude.{Err}
use mathlib.Core.Path.{◌≡◌, refl, sym, ap, ◌∙◌}
use mathlib.Core.List.{map}
use Prim.Native.Nat.{◌≤◌, ◌<◌}
use native.Mathlib.Omega.{arith}
use lib.ListN.{length, length-set, drop_of_length-le}
use borrow.Author.Rules.{rules}
use Rattle.std.proofs.lemmas.Result.{err_from_is_err_and}
use Rattle.katan.specs.Bit.{from_bits}
use Rattle.katan.specs.Sizes.{lane_count}
use Rattle.katan.proofs.Fill.{filled, full}
use Rattle.bench.specs.Checks.{any_lane_fault}
use Rattle.bench.specs.Bench.{lane_view}
use Rattle.bench_screen.specs.Screen.{number_shown, bit_shown, lane_number, numbers_shown, mask_shown}
use Rattle.bench_screen.proofs.Turns.{at_place, if_ok, if_err, fault_here, sound_here, mask_turn, mask_fits}
use Rattle.bench_screen.proofs.look.Goals as goal

pub loop-i-init : goal.loop-i-init
unfolding from_bits
loop-i-init c = (refl, refl, λ h. absurd (omega arith), λ j h. absurd (omega arith), refl)

pub returns-in_err-found : goal.returns-in_err-found
returns-in_err-found c =
    let b = c.args.bench in
    let len : length b.slots ≡ lane_count = search rules in
    let in_range : c.loop-i.i < length b.slots = omega arith in
    let found = if_err _ _ _ c.lane_seen.ensures c.in_err-found.was in
    let fault = fault_here b.variant b.slots c.loop-i.i in_range found.0 c.loop-i.invariant.1 in
    let p = err_from_is_err_and c.from_residual.result c.from_residual.ensures.1 in
    rw (p.1, fault) (ap Err (p.2 ∙ found.1))

pub overflow_add-shown : goal.overflow_add-shown
overflow_add-shown c =
    let a = c.args in
    let i = c.loop-i.i in
    let in_range : i < lane_count = omega arith in
    let found = if_ok _ _ _ c.lane_seen.ensures c.in_ok-found.was in
    let its_bit = at_place bit_shown a.mask a.bench.slots i c.bit_of.ensures (ap (λ x. x.bit) found.1) in
    search (rules, mask_fits a.mask (map lane_view a.bench.slots) i in_range _ _ its_bit c.loop-i.invariant.4)

pub loop-i-preserved : goal.loop-i-preserved
loop-i-preserved c =
    let l = c.loop-i in
    let a = c.args in
    let ss = a.bench.slots in
    let views = map lane_view ss in
    let len : length ss ≡ lane_count = search rules in
    let in_range : l.i < lane_count = omega arith in
    let found = if_ok _ _ _ c.lane_seen.ensures c.in_ok-found.was in
    let sound = sound_here a.bench.variant ss l.i (omega arith) found.0 in
    let its_number = at_place number_shown a.mask ss l.i c.bit_of.ensures (ap (λ x. x.number) found.1) in
    let its_bit = at_place bit_shown a.mask ss l.i c.bit_of.ensures (ap (λ x. x.bit) found.1) in (
      length-set l.numbers l.i _ ∙ l.invariant.0,
      sound.1 ∙ l.invariant.1,
      λ h. sound.0,
      filled (lane_number a.mask views) l.numbers l.i _ (omega arith) l.invariant.3 its_number,
      mask_turn a.mask views l.i in_range _ _ its_bit l.invariant.4,
    )

pub returns : goal.returns
unfolding numbers_shown mask_shown any_lane_fault
returns c =
    let l = c.loop-i in
    let b = c.args.bench in
    let len : length b.slots ≡ lane_count = search rules in
    let end : l.i ≡ lane_count = omega arith in
    let none : length b.slots ≤ l.i = omega arith in
    let e = drop_of_length-le b.slots none in
    let sound = l.invariant.2 (omega arith) in
    let lanes = sym (simp e at l.invariant.1) in
    let numbers = full (lane_number c.args.mask (map lane_view b.slots)) lane_count l.numbers l.invariant.0 (simp end at l.invariant.3) in
    let shown = simp end at l.invariant.4 in
    rw (sound, lanes, numbers, shown) refl
