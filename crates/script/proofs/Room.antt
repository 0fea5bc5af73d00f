-- What a line prints has room, on every session.
-- Assumes nothing.
use Prim.Native.Nat.{ℕ, ◌≤◌}
use mathlib.Core.Path.{◌≡◌, refl}
use mathlib.Core.Bool.{Bool, true, false}
use mathlib.Core.List.{List, [], ◌∷◌}
use lib.Dec.{eqb, lit≤}
use lib.ListN.{length}
use Rattle.katan.specs.Checks.{Outcome, value, refused, checked, variant_check}
use Rattle.script_answers.specs.Printed.{line_feed, room}
use Rattle.script_answers.proofs.Lines.{opened_line_fits, answer_line_fits}
use Rattle.script_command.specs.Answer.{command_answer}
use Rattle.script_command.specs.declared.Command.{Command}
use Rattle.script_command.specs.declared.Command.TheVariants.{Bench, Read, Load, Forward, Back, Clear}
use Rattle.script_interpreter.specs.Interpreter.{opens_as, obeys, takes_as, on_line}
use Rattle.script_interpreter.specs.Session.{variant_of, open_bench, session_transition, session_line}
use Rattle.script_interpreter.specs.declared.Session.{Session}
use Rattle.script.specs.Pieces.{on_byte}
use Rattle.script.specs.declared.Script.{Script}
use Rattle.script.proofs.Begun.{byte_feed, byte_more}

opens_fit : (x : Session) (v : ℕ) (u : Outcome (Unit {0})) → length (opens_as variant_of open_bench session_transition x v u).1 ≤ room
opens_fit x v (value u) = opened_line_fits v
opens_fit x v (refused k) = answer_line_fits 0 0 (refused k)

command_fits : (x : Session) (c : Command) → length (obeys variant_of open_bench session_transition x c).1 ≤ room
unfolding obeys
command_fits x (Bench v) = opens_fit x v (checked (variant_check v ∷ []) (value tt))
command_fits x (Read lane) = answer_line_fits (variant_of x) lane _
command_fits x (Load number lane position key block) = answer_line_fits (variant_of x) 0 _
command_fits x (Forward number mask count) = answer_line_fits (variant_of x) 0 _
command_fits x (Back number mask count) = answer_line_fits (variant_of x) 0 _
command_fits x (Clear number mask) = answer_line_fits (variant_of x) 0 _

pub line_fits : (x : Session) (line : List ℕ) → length (session_line x line).1 ≤ room
unfolding on_line takes_as
line_fits x line = go (command_answer (variant_of x) line)
  where
    go : (u : Outcome Command) → length (takes_as variant_of open_bench session_transition x u).1 ≤ room
    go (value c) = command_fits x c
    go (refused k) = answer_line_fits 0 0 (refused k)

pub byte_fits : (x : Script) (b : ℕ) → length (on_byte x b).1 ≤ room
byte_fits x b = go (eqb b line_feed) refl
  where
    go : (t : Bool) → eqb b line_feed ≡ t → length (on_byte x b).1 ≤ room
    go true e = rw (byte_feed x b e) (line_fits x.session _)
    go false e = rw (byte_more x b e) (lit≤ tt)
