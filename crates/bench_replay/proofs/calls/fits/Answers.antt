use mathlib.Core.Path.{refl, sym, ap, ◌∙◌}
use mathlib.Core.List.{List}
use Prim.Native.Nat.{ℕ, ◌-◌, ◌≤◌, ◌<◌}
use native.Mathlib.Omega.{arith}
use lib.ListN.{length, length-drop}
use borrow.Author.Tests.{eqb-true, eqb-false}
use Rattle.bench_replay.specs.Encoding.{call_size, answer_length, fits as fits_in}
use Rattle.bench_replay.proofs.Parsing.{head_within, call_within, fits_broken, fits_short, fits_on, fits_end}
use Rattle.bench_replay.proofs.calls.fits.Goals as goal

pub loop-after-init : goal.loop-after-init
loop-after-init c = refl

pub returns-then-left-lt-ANSWER_LENGTH : goal.returns-then-left-lt-ANSWER_LENGTH
returns-then-left-lt-ANSWER_LENGTH c =
    let l = c.loop-after in
    let s = l.rest.now in
    let some : 0 < length s = omega (arith, call_within s c.in-Some.ensures.whole, head_within s) in
    sym (fits_short s l.left some c.if-left-lt-ANSWER_LENGTH.true) ∙ l.invariant

pub loop-after-smaller : goal.loop-after-smaller
loop-after-smaller c =
    let s = c.loop-after.rest.now in
    let f = c.in-Some.ensures in
    rw f.after (omega (arith, length-drop (call_size s) s, call_within s f.whole, head_within s))

pub loop-after-preserved : goal.loop-after-preserved
loop-after-preserved c =
    let l = c.loop-after in
    let s = l.rest.now in
    let f = c.in-Some.ensures in
    let some : 0 < length s = omega (arith, call_within s f.whole, head_within s) in
    ap (λ (r : List ℕ). fits_in r (l.left - answer_length)) f.after
    ∙ fits_on s l.left some f.whole c.if-left-lt-ANSWER_LENGTH.false
    ∙ l.invariant

pub returns-then-is_empty : goal.returns-then-is_empty
returns-then-is_empty c =
    let l = c.loop-after in
    let s = l.rest.now in
    let none : length s ≤ 0 = omega (arith, eqb-true (length s) 0 (sym c.is_empty.ensures ∙ c.if-is_empty.true)) in
    sym (fits_end s l.left none) ∙ l.invariant

pub returns-else-is_empty : goal.returns-else-is_empty
returns-else-is_empty c =
    let l = c.loop-after in
    let s = l.rest.now in
    let some : 0 < length s = omega (arith, eqb-false (length s) 0 (sym c.is_empty.ensures ∙ c.if-is_empty.false)) in
    c.if-is_empty.false ∙ sym (fits_broken s l.left some c.in_default.ensures) ∙ l.invariant
