use mathlib.Core.Path.{◌≡◌}
use Rattle.katan_smudged.specs.inner.Words.{clocks_words}
use Rattle.katan_smudged.proofs.words.clocks.Given as goal

abbrev pub invariant-loop : goal.invariant-loop
invariant-loop g l = l.t ≡ clocks_words g.W.Width.row l.u l.counter l.initial.t
