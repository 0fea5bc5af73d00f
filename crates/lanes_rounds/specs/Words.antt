-- All rounds of the lanes of a word at once: bit j of each word belongs to lane j.
-- Assumes nothing.
use Rattle.std.specs.Prelude.{ℕ, ◌+◌, ◌*◌, ◌%◌, ◌^◌, List, eqb, get_or}
use Rattle.katan.specs.Bit.{bit, pick, tabulate}
use Rattle.katan.specs.Clock.{run, unrun, block, registers}
use Rattle.katan.specs.Counter.{counter, ir_of, rounds}
use Rattle.katan.specs.Sizes.{word_bits}
use Rattle.katan.specs.Variant.{row32, row48, row64}
use Rattle.katan.specs.declared.RoundInput.{RoundInput}
use Rattle.katan.specs.declared.Row.{Row}
use Rattle.lanes_transpose.specs.Matrix.{column, transposed}

-- the row of a width; 64 stands for any other number
abbrev pub width_row : ℕ → Row
width_row n = pick (eqb n 32) row32 (pick (eqb n 48) row48 row64)

-- lane j's block: its bit i is bit j of word i; the words from n on are not looked at
abbrev pub lane_block : Row → List ℕ → ℕ → ℕ
lane_block v words j = column words j % 2 ^ v.n

-- what round r takes in lane j: IR is every lane's, and the key words 2 r and 2 r + 1 have ka and kb
abbrev pub lane_input : List ℕ → ℕ → ℕ → RoundInput
lane_input keys j r = record { ir = ir_of (counter r); ka = bit (get_or keys (2 * r) 0) j; kb = bit (get_or keys (2 * r + 1) 0) j }

-- the words whose lanes hold what all rounds make of each lane's block; the words from n on are 0, since that is below 2^n
unfoldable pub all_rounds_run : (n : ℕ) (keys words : List ℕ) → List ℕ
all_rounds_run n keys words =
    let v = width_row n in
    transposed (tabulate (λ j. block v (run v (lane_input keys j) 0 rounds (registers v (lane_block v words j)))) 0 word_bits)

-- and the same with all rounds undone
unfoldable pub all_rounds_undone : (n : ℕ) (keys words : List ℕ) → List ℕ
all_rounds_undone n keys words =
    let v = width_row n in
    transposed (tabulate (λ j. block v (unrun v (lane_input keys j) 0 rounds (registers v (lane_block v words j)))) 0 word_bits)
