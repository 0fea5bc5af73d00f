use mathlib.Core.Path.{◌≡◌, subst}
use Prim.Native.Nat.{ℕ}
use native.Mathlib.Numerals.{add-one}
use native.Mathlib.Omega.{arith}
use Rattle.katan.specs.Variant.{row_of}
use Rattle.katan.specs.declared.Row.{Row}
use Rattle.katan_smudged.specs.inner.Words.{input_words, HoldsCells, run_three}
use Rattle.katan_smudged.proofs.Runs.{After, round_on}
use Rattle.katan_smudged.proofs.rounds.run_at.Goals as goal

pub loop-r-preserved : goal.loop-r-preserved
loop-r-preserved g c =
    let l = c.loop-r in
    let v = c.args.variant in
    let t = c.new-tables.result in
    let round = subst (λ (row : Row). After row v (input_words v t.counters t.numbers l.r l.h.source) l.h c.round_of-h.result) c.requires.0 c.round_of-h.ensures in
    λ key n k h. rw add-one (round_on v t.counters t.numbers (t.counters_are, t.numbers_are) key n l.r (omega arith) k l.h _ (l.invariant key n k h) round)

pub returns : goal.returns
returns g c =
    let l = c.loop-r in
    let a = c.args in
    let all : l.r ≡ a.to.0 = omega arith in
    λ key k n source registers.
    subst (λ (p : ℕ). HoldsCells (row_of a.variant) l.h.registers (run_three a.variant key p k)) all
    (l.invariant key n k (record { registers_hold = registers; source_holds = source })).registers_hold
