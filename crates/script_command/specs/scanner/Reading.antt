-- The reading of a line, from left to right: its first bytes choose the form, and the rest is read by it. A reader need not believe this file: Reads in
-- specs/Reads says what the answer to every line must be, and proofs/Exact proves it.
-- Assumes nothing.
use Rattle.std.specs.Prelude.{ℕ, ◌≡◌, ◌⊎◌, List, Option, None, Result, ltb, eqb, length, get_or}
use Rattle.std.specs.Option.{option_map, option_and_then}
use Rattle.std.specs.Result.{result_ok}
use Rattle.katan.specs.Bit.{pick}
use Rattle.katan.specs.Checks.{variant_check}
use Rattle.script_form.specs.Form.{bytes, block_digits}
use Rattle.script_command.specs.Written.{line_length}
use Rattle.script_form.specs.scanner.Scan.{word_at, begin, scan, whole}
use Rattle.script_command.specs.declared.Command.{Command}
use Rattle.script_command.specs.declared.Command.TheVariants.{Bench, Read, Load, Forward, Back, Clear}
use Rattle.script_form.specs.declared.Values.{Values}
use Rattle.script_form.specs.declared.Fields.{Fields}

-- the forms, a record line's in two parts
abbrev pub front : List ℕ
front = bytes "(# ("

abbrev pub bench_form : List ℕ
bench_form = bytes "(bench %)"

abbrev pub read_form : List ℕ
read_form = bytes "(read %)"

abbrev pub load_form : List ℕ
load_form = bytes "load % % (key &) (block *)))"

abbrev pub forward_form : List ℕ
forward_form = bytes "forward (lanes $) %))"

abbrev pub back_form : List ℕ
back_form = bytes "back (lanes $) %))"

abbrev pub clear_form : List ℕ
clear_form = bytes "clear (lanes $)))"

abbrev pub IsMove : List ℕ → Type 0
IsMove form = (form ≡ forward_form) ⊎ (form ≡ back_form)

-- what is made of the values of a form, where that is found
abbrev pub made : {A : Type 0} → (Values → A) → Result Fields Fields → Option A
made make r = option_map (λ (f : Fields). make f.values) (result_ok r)

-- only a load's form has a block: the others are read with the digits of no variant, 0
unfoldable pub bench_in : List ℕ → Option Command
bench_in line = made (λ (x : Values). Bench (word_at x 0)) (whole (block_digits 0) line 0 bench_form)

unfoldable pub read_in : List ℕ → Option Command
read_in line = made (λ (x : Values). Read (word_at x 0)) (whole (block_digits 0) line 0 read_form)

unfoldable pub load_in : ℕ → ℕ → List ℕ → ℕ → Option Command
load_in v number line offset =
    made (λ (x : Values). Load number (word_at x 0) (word_at x 1) (record { low = word_at x 3; high = word_at x 2 }) (word_at x 4))
    (whole (block_digits v) line offset load_form)

-- the mask and the count of a move
unfoldable pub move_in : List ℕ → List ℕ → ℕ → Option (ℕ × ℕ)
move_in form line offset = made (λ (x : Values). (word_at x 0, word_at x 1)) (whole (block_digits 0) line offset form)

abbrev pub forward_in : ℕ → List ℕ → ℕ → Option Command
forward_in number line offset = option_map (λ (x : ℕ × ℕ). Forward number x.0 x.1) (move_in forward_form line offset)

abbrev pub back_in : ℕ → List ℕ → ℕ → Option Command
back_in number line offset = option_map (λ (x : ℕ × ℕ). Back number x.0 x.1) (move_in back_form line offset)

unfoldable pub clear_in : ℕ → List ℕ → ℕ → Option Command
clear_in number line offset = made (λ (x : Values). Clear number (word_at x 0)) (whole (block_digits 0) line offset clear_form)

-- the command of a record line, by the letter after its number: l, f, b or c
abbrev pub record_as : ℕ → List ℕ → ℕ → ℕ → ℕ → Option Command
record_as v line offset number x =
    pick (eqb x 108) (load_in v number line offset)
    (pick (eqb x 102) (forward_in number line offset)
    (pick (eqb x 98) (back_in number line offset)
    (pick (eqb x 99) (clear_in number line offset) None)))

abbrev pub record_by : ℕ → List ℕ → Fields → Option Command
record_by v line f = record_as v line f.offset (word_at f.values 0) (get_or line f.offset 0)

unfoldable pub record_in : ℕ → List ℕ → Option Command
record_in v line = option_and_then (record_by v line) (result_ok (scan (block_digits 0) line (begin 0) front))

-- what a line is taken for on an open bench of variant v; v is 0 where none is open. The letter after the first parenthesis chooses: b; on an open bench
-- also r, or a record's number
unfoldable pub command_in : ℕ → List ℕ → Option Command
command_in v line =
    pick (ltb line_length (length line)) None
    (pick (eqb (get_or line 1 0) 98) (bench_in line)
    (pick (variant_check v).fault None
    (pick (eqb (get_or line 1 0) 114) (read_in line)
    (record_in v line))))
