use Prim.Native.Nat.{◌≤◌}
use borrow.Author.Rules.{rules}
use Rattle.script_form.specs.scanner.Scan.{word_at}
use Rattle.script_command.proofs.Fits.{met, move_fits}
use Rattle.script_command.proofs.reader.Reader.move_in.Goals as goal

pub overflow_cast-result : goal.overflow_cast-result
overflow_cast-result c = let h : word_at c.in_ok-found.found.values 1 ≤ 255 = move_fits c.args.self.line.now c.args.self.offset _ _ c.args.form.now c.requires (met _ _ _ c.in_ok-found.ensures.value c.whole_at.ensures) in search rules
