use mathlib.Core.Path.{◌≡◌, refl, sym, ap, ap₂, ◌∙◌}
use Prim.Native.Nat.{◌+◌, ◌-◌, ◌≤◌, ◌<◌}
use native.Mathlib.Nat.{sub-zero}
use native.Mathlib.Omega.{arith}
use lib.ListN.{length, length-drop}
use borrow.Author.Rules.{rules}
use Rattle.bench.specs.Calls.{Call}
use Rattle.bench.specs.Bench.{State, bench_transition}
use Rattle.bench_replay.specs.Encoding.{call_size, answer_length, answer_bytes, fits}
use Rattle.bench_replay.specs.inner.Steps.{state_of}
use Rattle.bench_replay.proofs.Parsing.{head_within, call_within, fits_room, fits_on, end_room, no_more}
use Rattle.bench_replay.proofs.Running.{state_end, state_turn, output_turn, output_last}
use Rattle.bench_replay.proofs.Writing.{length_over, fields_length}
use Rattle.bench_replay.proofs.run.run.Goals as goal

pub loop-call-init : goal.loop-call-init
loop-call-init c =
    let n = length c.args.out.now in
    ((omega arith, refl), ap (fits c.args.calls.now) (sub-zero n) ∙ c.requires, refl, refl)

pub write-requires : goal.write-requires
write-requires c =
    let l = c.loop-call in
    let s = l.rest.now in
    let some : 0 < length s = omega (arith, call_within s c.in-Some.ensures.whole, head_within s) in
    let h : l.to + answer_length ≤ length l.out = omega (arith, fits_room s (length l.out - l.to) some l.invariant.1) in
    omega arith

pub overflow_add-to : goal.overflow_add-to
overflow_add-to c =
    let l = c.loop-call in
    let s = l.rest.now in
    let some : 0 < length s = omega (arith, call_within s c.in-Some.ensures.whole, head_within s) in
    let h : l.to + answer_length ≤ length l.out = omega (arith, fits_room s (length l.out - l.to) some l.invariant.1) in
    search rules

pub loop-call-smaller : goal.loop-call-smaller
loop-call-smaller c =
    let s = c.loop-call.rest.now in
    let f = c.in-Some.ensures in
    rw f.after (omega (arith, length-drop (call_size s) s, call_within s f.whole, head_within s))

pub loop-call-preserved : goal.loop-call-preserved
loop-call-preserved c =
    let l = c.loop-call in
    let s = l.rest.now in
    let f = c.in-Some.ensures in
    let some : 0 < length s = omega (arith, call_within s f.whole, head_within s) in
    let w = c.write in
    let v = c.transition-next in
    let x = state_of l.bench l.link in
    let h : l.to + answer_length ≤ length l.out = omega (arith, fits_room s (length l.out - l.to) some l.invariant.1) in
    let same = ap length w.ensures ∙ length_over l.out _ _ answer_length (fields_length _ _ _) (omega (arith, h)) in
    let le : l.to ≤ length l.out = l.invariant.0.0 in
    let left : length w.new.out - (l.to + answer_length) ≡ length l.out - l.to - answer_length = omega (arith, same, h) in
    let next = state_of v.result.bench v.result.link in
    let after = v.ensures.0 ∙ ap (λ (k : Call). (bench_transition x k).0) f.call in
    let answer = v.ensures.1 ∙ ap (λ (k : Call). answer_bytes (bench_transition x k).1) f.call in (
      (omega (arith, same, h), same ∙ l.invariant.0.1),
      ap₂ fits f.after left ∙ fits_on s (length l.out - l.to) some f.whole (omega (arith, h)) ∙ l.invariant.1,
      state_turn bench_transition x next s _ some f.after after ∙ l.invariant.2,
      output_turn bench_transition x next s _ some f.after after l.out w.new.out _ l.to answer (fields_length _ _ _) le w.ensures ∙ l.invariant.3,
    )

pub returns : goal.returns
returns c =
    let l = c.loop-call in
    let s = l.rest.now in
    let x = state_of l.bench l.link in
    let none = no_more s (length l.out - l.to) c.in_default.ensures l.invariant.1 in
    let z = end_room s (length l.out - l.to) none l.invariant.1 in (
      ap (λ (y : State). y.bench) (sym (state_end bench_transition x s none) ∙ l.invariant.2),
      output_last bench_transition x s l.out l.to none (omega (arith, z)) l.invariant.3,
    )
