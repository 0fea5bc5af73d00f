use Rattle.std.proofs.Common.{sym, ap, ◌∙◌, get_or, Some, eq-eqb}
use borrow.Author.Tests.{ne_eqb}
use Rattle.driver_layout.specs.Layout.{lane_in}
use Rattle.driver_layout.proofs.lane_in.Goals as goal

pub returns-then-byte_at-eq-EMPTY : goal.returns-then-byte_at-eq-EMPTY
unfolding lane_in
returns-then-byte_at-eq-EMPTY c =
    rw (eq-eqb (get_or c.args.bytes.now 0 0) 0 (sym c.byte_at.ensures ∙ c.if-byte_at-eq-EMPTY.true))

pub returns-else-byte_at-eq-EMPTY : goal.returns-else-byte_at-eq-EMPTY
unfolding lane_in
returns-else-byte_at-eq-EMPTY c =
    rw (ne_eqb (get_or c.args.bytes.now 0 0) 0 (λ e. c.if-byte_at-eq-EMPTY.false (c.byte_at.ensures ∙ e))) (ap Some c.loaded_in.ensures)
