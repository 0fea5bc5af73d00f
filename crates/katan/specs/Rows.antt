-- What a call for a variant's row answers.
-- Assumes nothing.
use Rattle.std.specs.Prelude.{ℕ, [], ◌∷◌}
use Rattle.katan.specs.Variant.{row_of}
use Rattle.katan.specs.Checks.{Outcome, value, checked, variant_check}
use Rattle.katan.specs.declared.Row.{Row}

abbrev pub row_answer : ℕ → Outcome Row
row_answer v = checked (variant_check v ∷ []) (value (row_of v))
