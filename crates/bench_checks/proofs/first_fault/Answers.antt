use Rattle.std.proofs.Common.{ℕ, ◌≡◌, List, sym, subst, ◌∙◌, rules}
use mathlib.Core.Bool.{false}
use Rattle.std.proofs.lemmas.Result.{err_from_is_err_and}
use Rattle.katan.specs.Checks.{value, refused, checked}
use Rattle.katan.proofs.Checked.{all_passed, no_fault_found, fault_found}
use Rattle.bench_record.specs.declared.Record.{Record}
use Rattle.bench_record.specs.Fields.{decode}
use Rattle.bench_record.specs.Checks.{field_checks}
use Rattle.bench.specs.Bench.{held_check}
use Rattle.bench_checks.specs.Decision.{turn_view}
use Rattle.bench_checks.proofs.Decisions.{refused_1, refused_2, refused_9_10, form_decides}
use Rattle.bench_checks.proofs.first_fault.Goals as goal

pub returns-then-bad_bench : goal.returns-then-bad_bench
returns-then-bad_bench c = refused_1 c.args.bench c.args.link c.args.sent.now (sym c.bad_bench.ensures ∙ c.if-bad_bench.true)

pub returns-then-sent-ne-LENGTH : goal.returns-then-sent-ne-LENGTH
returns-then-sent-ne-LENGTH c =
    let sound : (held_check c.args.bench).fault ≡ false = search rules in
    refused_2 c.args.bench c.args.link c.args.sent.now sound c.if-sent-ne-LENGTH.true

pub returns-in_err-turn : goal.returns-in_err-turn
returns-in_err-turn c =
    let p = err_from_is_err_and c.from_residual.result c.from_residual.ensures.1 in
    rw (p.1, p.2) (refused_9_10 c.args.bench c.args.link c.args.sent.now (sym c.bad_bench.ensures ∙ c.if-bad_bench.false) c.if-sent-ne-LENGTH.false _ c.in_err-turn.ensures)

-- checks 3 to 8 answer a refusal or none, whatever would be answered without them
refuses : (v k : ℕ) (r : Record) (s : List ℕ) {A : Type 0} (x : A) → r ≡ decode s → refused k ≡ checked (field_checks v r) (value (tt {0})) → refused k ≡ checked (field_checks v (decode s)) (value x)
refuses v k r s x e f =
    subst (λ (q : Record). refused k ≡ checked (field_checks v q) (value x)) e (sym (fault_found (tt {0}) (value x) k (field_checks v r) (sym f)))

passes : (v : ℕ) (r : Record) (s : List ℕ) {A : Type 0} (x : A) → r ≡ decode s → value (tt {0}) ≡ checked (field_checks v r) (value (tt {0})) → value x ≡ checked (field_checks v (decode s)) (value x)
passes v r s x e f =
    subst (λ (q : Record). value x ≡ checked (field_checks v q) (value x)) e (sym (no_fault_found (field_checks v r) (value x) (all_passed (tt {0}) (field_checks v r) (value tt) (sym f)).0))

pub returns-in_err-field_fault : goal.returns-in_err-field_fault
returns-in_err-field_fault c =
    let a = c.args in
    let p = err_from_is_err_and c.from_residual-in_err-field_fault.result c.from_residual-in_err-field_fault.ensures.1 in
    let in_turn = form_decides a.bench a.link a.sent.now (sym c.bad_bench.ensures ∙ c.if-bad_bench.false) c.if-sent-ne-LENGTH.false (turn_view c.in_ok-turn.turn) c.in_ok-turn.ensures in
    rw (p.1, p.2) (refuses a.bench.variant _ a.fields a.sent.now (turn_view c.in_ok-turn.turn) c.requires c.in_err-field_fault.ensures ∙ in_turn)

pub returns : goal.returns
returns c =
    let a = c.args in
    let in_turn = form_decides a.bench a.link a.sent.now (sym c.bad_bench.ensures ∙ c.if-bad_bench.false) c.if-sent-ne-LENGTH.false (turn_view c.in_ok-turn.turn) c.in_ok-turn.ensures in
    passes a.bench.variant a.fields a.sent.now (turn_view c.in_ok-turn.turn) c.requires c.in_ok-field_fault.ensures ∙ in_turn
