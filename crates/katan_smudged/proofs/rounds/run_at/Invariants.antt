use mathlib.Core.Path.{◌≡◌}
use mathlib.Core.List.{List}
use lib.ListN.{length}
use Rattle.katan.specs.Key.{key_length}
use Rattle.katan_sheet.specs.Three.{Three}
use Rattle.katan_sheet.specs.Cells.{Cells}
use Rattle.katan_smudged.proofs.Runs.{Reached}
use Rattle.katan_smudged.proofs.rounds.run_at.Given as goal

abbrev pub invariant-loop-r : goal.invariant-loop-r
invariant-loop-r g l = (key : List Three) → length key ≡ key_length → (c : Cells Three) → Reached l.variant key 0 c l.initial.h → Reached l.variant key l.r c l.h
