use mathlib.Core.Path.{ap, ◌∙◌}
use native.Mathlib.Numerals.{add-one}
use Rattle.katan_smudged.specs.inner.Words.{clock_words}
use Rattle.katan_smudged.proofs.words.clocks.Goals as goal

pub loop-preserved : goal.loop-preserved
loop-preserved g c = rw add-one (c.clock-t.ensures ∙ ap (clock_words g.W.Width.row c.args.u) c.loop.invariant)
