use Prim.Native.Nat.{◌^◌, ◌≤◌, ◌<◌}
use borrow.Author.Rules.{rules}
use Rattle.script_form.specs.scanner.Scan.{word_at}
use Rattle.script_command.proofs.Fits.{met, load_fits}
use Rattle.script_command.proofs.reader.Reader.load_in.Goals as goal

pub overflow_cast-key : goal.overflow_cast-key
overflow_cast-key c = let h : word_at c.in_ok-found.found.values 2 < 2 ^ 16 = (load_fits c.args.variant c.args.self.line.now c.args.self.offset _ (met _ _ _ c.in_ok-found.ensures.value c.whole_at.ensures)).high in search rules

pub overflow_cast-result : goal.overflow_cast-result
overflow_cast-result c = let h : word_at c.in_ok-found.found.values 0 ≤ 255 = (load_fits c.args.variant c.args.self.line.now c.args.self.offset _ (met _ _ _ c.in_ok-found.ensures.value c.whole_at.ensures)).lane in search rules

pub overflow_cast-result-2 : goal.overflow_cast-result-2
overflow_cast-result-2 c = let h : word_at c.in_ok-found.found.values 1 ≤ 255 = (load_fits c.args.variant c.args.self.line.now c.args.self.offset _ (met _ _ _ c.in_ok-found.ensures.value c.whole_at.ensures)).position in search rules
