-- What a change of position answers.
-- Assumes nothing.
use Rattle.std.specs.Prelude.{ℕ, [], ◌∷◌}
use Rattle.katan.specs.Machine.{registers_at}
use Rattle.katan.specs.Checks.{Outcome, value, checked, variant_check, position_check, block_check}

-- from position q to position p
abbrev pub registers_answer : ℕ → ℕ → ℕ → ℕ → ℕ → Outcome ℕ
registers_answer v key q p x =
    checked (variant_check v ∷ position_check q ∷ position_check p ∷ block_check v x ∷ []) (value (registers_at v key q x p))
