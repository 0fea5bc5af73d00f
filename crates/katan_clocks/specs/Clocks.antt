-- Clocks whose inputs stand in words: IR, ka and kb of the clocks one beside the other, the first clock's highest.
-- Assumes nothing.
use Rattle.std.specs.Prelude.{ℕ, zero, suc, ◌/◌, ◌%◌}
use Rattle.katan.specs.Clock.{clock, unclock}
use Rattle.katan.specs.declared.Row.{Row}
use Rattle.katan.specs.declared.Registers.{Registers}
use Rattle.katan.specs.declared.RoundInput.{RoundInput}

-- the last clock's input
abbrev pub lowest : RoundInput → RoundInput
lowest w = record { ir = w.ir % 2; ka = w.ka % 2; kb = w.kb % 2 }

-- those of the clocks before it
abbrev pub earlier : RoundInput → RoundInput
earlier w = record { ir = w.ir / 2; ka = w.ka / 2; kb = w.kb / 2 }

-- c clocks with the lowest c places of the words
unfoldable pub clocks_by : Row → ℕ → RoundInput → Registers → Registers
clocks_by v zero w s = s
clocks_by v (suc c) w s = clock v (lowest w) (clocks_by v c (earlier w) s)

-- the same undone, the last first
unfoldable pub unclocks_by : Row → ℕ → RoundInput → Registers → Registers
unclocks_by v zero w s = s
unclocks_by v (suc c) w s = unclocks_by v c (earlier w) (unclock v (lowest w) s)
