-- A line that has begun goes on with bytes, as far as there is room.
-- Assumes nothing.
use Rattle.std.specs.Prelude.{ℕ, suc, List, [], ◌∷◌, eqb}
use Rattle.katan.specs.Bit.{pick}
use Rattle.script_answers.specs.Printed.{line_feed}
use Rattle.script.specs.Pieces.{kept}
use Rattle.script.specs.declared.Pending.{Pending}

unfoldable pub kept_all : Pending → List ℕ → Pending
kept_all p [] = p
kept_all p (b ∷ bytes) = kept_all (kept p b) bytes

-- how many bytes stand before the first line feed
unfoldable pub line_end : List ℕ → ℕ
line_end [] = 0
line_end (b ∷ piece) = pick (eqb b line_feed) 0 (suc (line_end piece))
