-- The transpose of a matrix of bits. A matrix is a list of rows; bit j of a row stands in column j.
-- Assumes nothing.
use Rattle.std.specs.Prelude.{ℕ, ◌+◌, ◌*◌, List, [], ◌∷◌}
use Rattle.katan.specs.Bit.{bit, tabulate}
use Rattle.katan.specs.Sizes.{word_bits}

-- column j as a number: its bit i is bit j of row i
unfoldable pub column : List ℕ → ℕ → ℕ
column [] j = 0
column (row ∷ rows) j = column rows j * 2 + bit row j

-- the columns, as rows: as many as a word has bits
unfoldable pub transposed : List ℕ → List ℕ
transposed m = tabulate (column m) 0 word_bits
