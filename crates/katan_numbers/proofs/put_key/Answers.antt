use Rattle.std.proofs.Common.{sym, ◌∙◌}
use Rattle.katan.proofs.Copies.{it_fits, no_fit}
use Rattle.katan_numbers.proofs.put_key.Goals as goal

pub returns-then-out-eq-KEY_BYTES : goal.returns-then-out-eq-KEY_BYTES
returns-then-out-eq-KEY_BYTES c =
    c.write_key.ensures ∙ sym (it_fits _ _ c.args.out.now c.if-out-eq-KEY_BYTES.true)

pub returns-else-out-eq-KEY_BYTES : goal.returns-else-out-eq-KEY_BYTES
returns-else-out-eq-KEY_BYTES c = sym (no_fit _ _ c.args.out.now c.if-out-eq-KEY_BYTES.false)
