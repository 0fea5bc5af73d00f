use Prim.Native.Nat.{◌≤◌}
use borrow.Author.Rules.{rules}
use Rattle.script_form.specs.scanner.Scan.{word_at}
use Rattle.script_command.proofs.Fits.{met, number_fits}
use Rattle.script_command.proofs.lines.record_in.Goals as goal

pub overflow_cast-number : goal.overflow_cast-number
overflow_cast-number c = let h : word_at c.in_ok-front.front.values 0 ≤ 4294967295 = number_fits c.args.line.now 0 _ (met _ _ _ c.in_ok-front.ensures.value c.fields_at.ensures) in search rules
