use Prim.Native.Nat.{◌≤◌}
use borrow.Author.Rules.{rules}
use Rattle.script_form.specs.scanner.Scan.{word_at}
use Rattle.script_command.proofs.Fits.{met, bench_fits}
use Rattle.script_command.proofs.lines.bench_in.Goals as goal

pub overflow_cast-result : goal.overflow_cast-result
overflow_cast-result c = let h : word_at c.in_ok-found.found.values 0 ≤ 255 = bench_fits c.args.line.now 0 _ _ (met _ _ _ c.in_ok-found.ensures.value c.whole_at.ensures) in search rules
