use mathlib.Core.Path.{◌≡◌, sym, ◌∙◌}
use Prim.Native.Nat.{◌≤◌, ◌<◌}
use native.Mathlib.Omega.{arith}
use Rattle.std.specs.Prelude.{None}
use lib.ListN.{length}
use borrow.Author.Rules.{rules}
use borrow.Author.Tests.{ltb-true, ltb-false}
use Rattle.std.proofs.lemmas.Result.{err_from_is_err_and}
use Rattle.katan.specs.Sizes.{lane_count}
use Rattle.bench_stepping.proofs.ReadCases.{none_there, some_there, lane_at, read_1, read_5, read_11, read_at}
use Rattle.bench_stepping.proofs.read.Goals as goal

pub returns-then-bad_bench : goal.returns-then-bad_bench
returns-then-bad_bench c =
    let a = c.args in
    read_1 a.bench a.lane (sym c.bad_bench.ensures ∙ c.if-bad_bench.true)

pub returns-in_err-at : goal.returns-in_err-at
returns-in_err-at c =
    let a = c.args in
    let p = err_from_is_err_and c.from_residual.result c.from_residual.ensures.1 in
    let n = none_there _ _ c.ok_or.ensures.value c.in_err-at.was in
    let len : length a.bench.slots ≡ lane_count = search rules in
    let past = ltb-false _ (length a.bench.slots) (sym (rw n.0 at c.get.ensures.lookup.0)) in
    let out : lane_count ≤ a.lane = omega (arith, len, past) in
    rw (p.1, p.2 ∙ n.1) (read_5 a.bench a.lane (sym c.bad_bench.ensures ∙ c.if-bad_bench.false) out)

pub returns-in_err-h : goal.returns-in_err-h
returns-in_err-h c =
    let a = c.args in
    let p = err_from_is_err_and c.from_residual-in_err-h.result c.from_residual-in_err-h.ensures.1 in
    let n = none_there _ _ c.ok_or-2.ensures.value c.in_err-h.was in
    let there = some_there _ _ c.ok_or.ensures.value c.in_ok-at.was in
    let len : length a.bench.slots ≡ lane_count = search rules in
    let before = ltb-true _ (length a.bench.slots) (sym (rw there at c.get.ensures.lookup.0)) in
    let within : a.lane < lane_count = omega (arith, len, before) in
    let same = rw there at (c.get.ensures.lookup.4 (omega arith) None) in
    rw (p.1, p.2 ∙ n.1) (read_11 a.bench a.lane (sym c.bad_bench.ensures ∙ c.if-bad_bench.false) within (lane_at a.bench _ (omega arith) (sym same) ∙ n.0))

pub returns : goal.returns
returns c =
    let a = c.args in
    let h = some_there _ _ c.ok_or-2.ensures.value c.in_ok-h.was in
    let there = some_there _ _ c.ok_or.ensures.value c.in_ok-at.was in
    let len : length a.bench.slots ≡ lane_count = search rules in
    let before = ltb-true _ (length a.bench.slots) (sym (rw there at c.get.ensures.lookup.0)) in
    let within : a.lane < lane_count = omega (arith, len, before) in
    let same = rw there at (c.get.ensures.lookup.4 (omega arith) None) in
    read_at a.bench a.lane (sym c.bad_bench.ensures ∙ c.if-bad_bench.false) within _ (lane_at a.bench _ (omega arith) (sym same) ∙ h)
