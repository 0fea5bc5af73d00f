-- What a line of a script does, and prints (document 01, "Script"), over any kind of bench: a state tells the open bench's variant, 0 where none is open.
-- Assumes nothing.
use Rattle.std.specs.Prelude.{ℕ, List, [], ◌∷◌, ◌++◌}
use Rattle.katan.specs.Checks.{Outcome, value, refused, checked, variant_check}
use Rattle.bench_record.specs.Fields.{forward, back, clear, kind_byte}
use Rattle.bench_record.specs.Codec.{encode, load_record, move_record}
use Rattle.bench.specs.Calls.{Call, arrival, reading, Answer}
use Rattle.script_answers.specs.Printed.{opened_line, answer_line}
use Rattle.script_command.specs.declared.Command.{Command}
use Rattle.script_command.specs.declared.Command.TheVariants.{Bench, Read, Load, Forward, Back, Clear}
use Rattle.script_command.specs.Answer.{command_answer}

module _ {S : Type 0} (variant_in : S → ℕ) (fresh : ℕ → S) (transition : S → Call → S × Answer) where
  -- a bench line opens a fresh bench and link; one that is refused keeps the earlier
  abbrev pub opens_as : S → ℕ → Outcome (Unit {0}) → S × List ℕ
  opens_as x v (value u) = (fresh v, opened_line v)
  opens_as x v (refused k) = (x, answer_line 0 0 (refused k))

  abbrev pub opens : S → ℕ → S × List ℕ
  opens x v = opens_as x v (checked (variant_check v ∷ []) (value tt))

  -- a call to the bench; lane is the lane read
  abbrev pub calls : S → ℕ → Call → S × List ℕ
  calls x lane c = ((transition x c).0, answer_line (variant_in x) lane (transition x c).1)

  -- a record line becomes the record it names, unused fields zero
  abbrev pub sends : S → List ℕ → S × List ℕ
  sends x bytes = calls x 0 (arrival bytes)

  unfoldable pub obeys : S → Command → S × List ℕ
  obeys x (Bench v) = opens x v
  obeys x (Read lane) = calls x lane (reading lane)
  obeys x (Load number lane position key block) = sends x (encode (load_record number lane position key block))
  obeys x (Forward number mask count) = sends x (encode (move_record (kind_byte forward) number mask count))
  obeys x (Back number mask count) = sends x (encode (move_record (kind_byte back) number mask count))
  obeys x (Clear number mask) = sends x (encode (move_record (kind_byte clear) number mask 0))

  -- a line that is refused changes nothing
  unfoldable pub takes_as : S → Outcome Command → S × List ℕ
  takes_as x (value c) = obeys x c
  takes_as x (refused k) = (x, answer_line 0 0 (refused k))

  -- what a line leaves, and the line that it prints
  unfoldable pub on_line : S → List ℕ → S × List ℕ
  on_line x line = takes_as x (command_answer (variant_in x) line)

  -- the output of a script's lines
  unfoldable pub script_output : S → List (List ℕ) → List ℕ
  script_output x [] = []
  script_output x (line ∷ lines) = (on_line x line).1 ++ script_output (on_line x line).0 lines
