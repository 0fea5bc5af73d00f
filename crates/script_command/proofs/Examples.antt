-- The lines of document 01's script, and lines that break the form, computed.
-- Assumes nothing.
use Prim.Native.Nat.{ℕ}
use mathlib.Core.Path.{◌≡◌, refl}
use mathlib.Core.List.{List}
use Rattle.script_form.specs.Form.{bytes}
use Rattle.script_form.specs.Digits.{digit, fixed, place, decimal}
use Rattle.katan.specs.Checks.{Outcome, value, refused}
use Rattle.script_command.specs.Written.{line_of}
use Rattle.script_command.specs.Answer.{command_answer}
use Rattle.script_form.specs.Form.{block_digits}
use Rattle.script_form.specs.scanner.Scan.{value_of, run_in, decimal_in, digits_in, letter_in, push, advance, scan, whole}
use Rattle.script_command.specs.scanner.Reading.{command_in, record_in, bench_in, read_in, load_in, move_in, clear_in}
use Rattle.script_command.specs.declared.Command.{Command}
use Rattle.script_command.specs.declared.Command.TheVariants.{Bench, Read, Load, Forward, Back, Clear}

-- written on a bench of variant 1
abbrev Writes : Command → List ℕ → Type 0
Writes c line = line_of (block_digits 1) c ≡ line

pub script : Writes (Bench 1) (bytes "(bench 1)")
    × Writes (Load 1 0 0 (record { low = 18446744073709551615; high = 65535 }) 0) (bytes "(1 (load 0 0 (key ffffffffffffffffffff) (block 00000000)))")
    × Writes (Forward 2 1 5) (bytes "(2 (forward (lanes 0000000000000001) 5))")
    × Writes (Back 4294967295 10 255) (bytes "(4294967295 (back (lanes 000000000000000a) 255))")
    × Writes (Clear 10 1) (bytes "(10 (clear (lanes 0000000000000001)))")
    × Writes (Read 0) (bytes "(read 0)")
unfolding digit fixed place decimal
script = (refl, refl, refl, refl, refl, refl)

-- what a line is answered with on a bench of variant v
abbrev Answers : ℕ → List ℕ → Outcome Command → Type 0
Answers v line r = command_answer v line ≡ r

pub taken : Answers 0 (bytes "(bench 1)") (value (Bench 1))
    × Answers 1 (bytes "(bench 6)") (value (Bench 6))
    × Answers 1 (bytes "(1 (load 0 7 (key ffff0000000000000123) (block 000000ff)))") (value (Load 1 0 7 (record { low = 291; high = 65535 }) 255))
    × Answers 2 (bytes "(2 (forward (lanes 0000000000000001) 5))") (value (Forward 2 1 5))
    × Answers 6 (bytes "(4294967295 (back (lanes 000000000000000a) 255))") (value (Back 4294967295 10 255))
    × Answers 6 (bytes "(10 (clear (lanes 0000000000000001)))") (value (Clear 10 1))
    × Answers 1 (bytes "(read 0)") (value (Read 0))
unfolding command_answer value_of run_in decimal_in digits_in letter_in push advance scan whole command_in record_in bench_in read_in load_in move_in clear_in
taken = (refl, refl, refl, refl, refl, refl, refl)

pub broken : Answers 1 (bytes "") (refused 13)
    × Answers 1 (bytes "(bench 256)") (refused 13)
    × Answers 1 (bytes "(bench 01)") (refused 13)
    × Answers 1 (bytes "(bench  1)") (refused 13)
    × Answers 1 (bytes "(bench 1) ") (refused 13)
    × Answers 0 (bytes "(read 0)") (refused 13)
    × Answers 7 (bytes "(read 0)") (refused 13)
    × Answers 1 (bytes "(4294967296 (clear (lanes 0000000000000001)))") (refused 13)
    × Answers 1 (bytes "(1 (clear (lanes 000000000000000A)))") (refused 13)
    × Answers 1 (bytes "(1 (clear (lanes 000000000000001)))") (refused 13)
    × Answers 2 (bytes "(1 (load 0 0 (key ffffffffffffffffffff) (block 00000000)))") (refused 13)
unfolding command_answer value_of run_in decimal_in digits_in letter_in push advance scan whole command_in record_in bench_in read_in load_in move_in clear_in
broken = (refl, refl, refl, refl, refl, refl, refl, refl, refl, refl, refl)
