-- An input in pieces prints what its lines print, however it is cut.
-- Assumes nothing.
use Prim.Native.Nat.{ℕ, suc, ◌+◌, ◌*◌, ◌≤◌, ◌<◌, min}
use mathlib.Core.Path.{◌≡◌, refl, sym, ap, ap₂, ◌∙◌, subst⁻¹}
use mathlib.Core.Bool.{Bool, true, false}
use mathlib.Core.List.{List, [], ◌∷◌, ◌++◌, append_assoc, append-nil}
use native.Mathlib.Omega.{arith}
use lib.Dec.{eqb, leb, ltb}
use lib.ListN.{length, take, drop, set, length-append, length-set}
use lib.Seq.{take_all, drop-length, length-take-le, take-suc-set, take-append-le}
use borrow.Author.Tests.{leb-true, leb-false, ltb-true, ltb-false, eqb-true}
use Rattle.katan.specs.Bit.{pick}
use Rattle.script_answers.specs.Printed.{line_feed, room}
use Rattle.script_command.specs.Answer.{command_answer}
use Rattle.script_interpreter.specs.Interpreter.{takes_as, on_line, script_output}
use Rattle.script_interpreter.specs.Session.{no_bench, variant_of, open_bench, session_transition, session_line}
use Rattle.script.specs.Lines.{before, lines_of}
use Rattle.script.specs.Pieces.{pending_room, kept, emptied, line_in, started, on_line_feed, on_byte, on_bytes, at_end, Taken, on_piece}
use Rattle.script.specs.Claim.{Handed, Progress, next_call, after_calls, from_start, input, Roomy}
use Rattle.script_interpreter.specs.declared.Session.{Session}
use Rattle.script.specs.declared.Pending.{Pending}
use Rattle.script.specs.declared.Script.{Script}
use Rattle.script_interpreter.proofs.Taken.{long_broken}
use Rattle.script.proofs.Begun.{holding, byte_feed, byte_more, at_end_none, at_end_some}
use Rattle.script.proofs.Taken.{nothing_lost, used_up}

abbrev output : Session → List (List ℕ) → List ℕ
output = script_output variant_of open_bench session_transition

-- ---- lines of an input that begins with bytes other than a line feed

abbrev NoFeed : List ℕ → Type 0
NoFeed [] = Unit {0}
NoFeed (b ∷ line) = (eqb b line_feed ≡ false) × NoFeed line

no_feed_more : (line : List ℕ) (b : ℕ) → NoFeed line → eqb b line_feed ≡ false → NoFeed (line ++ (b ∷ []))
no_feed_more [] b n e = (e, tt)
no_feed_more (a ∷ line) b n e = (n.0, no_feed_more line b n.1 e)

lines_feed : (line input : List ℕ) → NoFeed line → lines_of (line ++ (line_feed ∷ input)) ≡ line ∷ lines_of input
unfolding lines_of
lines_feed [] input n = refl
lines_feed (b ∷ line) input n = rw n.0 (ap (before b) (lines_feed line input n.1))

lines_last : (b : ℕ) (line : List ℕ) → NoFeed (b ∷ line) → lines_of (b ∷ line) ≡ (b ∷ line) ∷ []
unfolding lines_of
lines_last b [] n = rw n.0
lines_last b (a ∷ line) n = rw n.0 (ap (before b) (lines_last a line n.1))

-- ---- a line too long is known by its first bytes

same_command : (v : ℕ) (line : List ℕ) → command_answer v (take pending_room line) ≡ command_answer v line
same_command v line = go (leb (length line) pending_room) refl
  where
    go : (t : Bool) → leb (length line) pending_room ≡ t → command_answer v (take pending_room line) ≡ command_answer v line
    go true e = ap (command_answer v) (take_all pending_room line (leb-true (length line) pending_room e))
    go false e =
        let more : pending_room < length line = leb-false (length line) pending_room e in
        let size : length (take pending_room line) ≡ pending_room = length-take-le pending_room line (omega arith) in
        long_broken v (take pending_room line) (omega arith) ∙ sym (long_broken v line (omega arith))

same_line : (x : Session) (line : List ℕ) → session_line x (take pending_room line) ≡ session_line x line
unfolding on_line
same_line x line = ap (takes_as variant_of open_bench session_transition x) (same_command (variant_of x) line)

-- ---- what has come of a line that has begun

record Begun (p : Pending) (line : List ℕ) : Type 0 where
  room : length p.bytes ≡ pending_room
  size : p.length ≡ min pending_room (length line)
  text : line_in p ≡ take pending_room line

begun_none : (p : Pending) → length p.bytes ≡ pending_room → Begun (emptied p) []
begun_none p e = record { room = e; size = omega arith; text = refl }

begun_more : (p : Pending) (line : List ℕ) (b : ℕ) → Begun p line → Begun (kept p b) (line ++ (b ∷ []))
unfolding kept
begun_more p line b h = go (ltb p.length pending_room) refl
  where
    len : length (line ++ (b ∷ [])) ≡ length line + 1
    len = length-append line (b ∷ [])

    go : (t : Bool) → ltb p.length pending_room ≡ t → Begun (pick t (record { bytes = set p.bytes p.length b; length = p.length + 1 }) p) (line ++ (b ∷ []))
    go true e =
        let less : p.length < pending_room = ltb-true p.length pending_room e in
        let short : length line ≤ pending_room = omega (arith, h.size) in
        let inside : p.length < length p.bytes = omega (arith, h.room) in
        let next : p.length + 1 ≡ suc p.length = omega arith in
        let all : length (line ++ (b ∷ [])) ≤ pending_room = omega (arith, h.size, len) in
        record {
          room = length-set p.bytes p.length b ∙ h.room;
          size = omega (arith, h.size, len);
          text =
              ap (λ (n : ℕ). take n (set p.bytes p.length b)) next
              ∙ take-suc-set p.bytes p.length b inside
              ∙ ap (λ (l : List ℕ). l ++ (b ∷ [])) (h.text ∙ take_all pending_room line short)
              ∙ sym (take_all pending_room (line ++ (b ∷ [])) all);
        }
    go false e =
        let full : pending_room ≤ p.length = ltb-false p.length pending_room e in
        let long : pending_room ≤ length line = omega (arith, h.size) in
        record { room = h.room; size = omega (arith, h.size, len); text = h.text ∙ sym (take-append-le pending_room line (b ∷ []) long) }

-- ---- the bytes of an input

module _ (x : Script) (line : List ℕ) (h : Begun x.pending line) where
  begun_line : session_line x.session (line_in x.pending) ≡ session_line x.session line
  begun_line = ap (session_line x.session) h.text ∙ same_line x.session line

at-end : (x : Script) (line : List ℕ) → NoFeed line → Begun x.pending line → at_end x ≡ output x.session (lines_of (line ++ []))
unfolding lines_of script_output
at-end x [] n h = at_end_none x (omega (arith, h.size))
at-end x (b ∷ line) n h =
    at_end_some x (λ z. omega (arith, h.size))
    ∙ ap (λ (t : Session × List ℕ). t.1) (begun_line x (b ∷ line) h)
    ∙ sym (append-nil (session_line x.session (b ∷ line)).1)
    ∙ ap (output x.session) (sym (ap lines_of (append-nil (b ∷ line)) ∙ lines_last b line n))

abbrev Whole : List ℕ → Script → List ℕ → Type 0
Whole input x line = (on_bytes x input).1 ++ at_end (on_bytes x input).0 ≡ output x.session (lines_of (line ++ input))

module _ (b : ℕ) (input : List ℕ) (more : (y : Script) (begun : List ℕ) → NoFeed begun → Begun y.pending begun → Whole input y begun)
    (x : Script) (line : List ℕ) (n : NoFeed line) (h : Begun x.pending line) where
  abbrev going : Script × List ℕ → List ℕ
  going t = (t.1 ++ (on_bytes t.0 input).1) ++ at_end (on_bytes t.0 input).0

  whole_feed : eqb b line_feed ≡ true → Whole (b ∷ input) x line
  unfolding on_bytes script_output
  whole_feed e =
      let t = on_line_feed x in
      let s = x.session in
      ap going (byte_feed x b e)
      ∙ append_assoc t.1 (on_bytes t.0 input).1 (at_end (on_bytes t.0 input).0)
      ∙ ap (λ (l : List ℕ). t.1 ++ l) (more t.0 [] tt (begun_none x.pending h.room))
      ∙ ap (λ (u : Session × List ℕ). u.1 ++ output u.0 (lines_of input)) (begun_line x line h)
      ∙ ap (output s) (sym (lines_feed line input n))
      ∙ ap (λ (c : ℕ). output s (lines_of (line ++ (c ∷ input)))) (sym (eqb-true b line_feed e))

  whole_byte : eqb b line_feed ≡ false → Whole (b ∷ input) x line
  unfolding on_bytes
  whole_byte e =
      ap going (byte_more x b e)
      ∙ more (holding x (kept x.pending b)) (line ++ (b ∷ [])) (no_feed_more line b n e) (begun_more x.pending line b h)
      ∙ ap (λ (l : List ℕ). output x.session (lines_of l)) (append_assoc line (b ∷ []) input)

whole : (input : List ℕ) (x : Script) (line : List ℕ) → NoFeed line → Begun x.pending line → Whole input x line
unfolding on_bytes
whole [] x line n h = at-end x line n h
whole (b ∷ input) x line n h = go (eqb b line_feed) refl (whole input)
  where
    go : (t : Bool) → eqb b line_feed ≡ t → ((y : Script) (begun : List ℕ) → NoFeed begun → Begun y.pending begun → Whole input y begun) → Whole (b ∷ input) x line
    go true e more = whole_feed b input more x line n h e
    go false e more = whole_byte b input more x line n h e

on_append : (x : Script) (a b : List ℕ) → ((on_bytes x (a ++ b)).0 ≡ (on_bytes (on_bytes x a).0 b).0) × ((on_bytes x (a ++ b)).1 ≡ (on_bytes x a).1 ++ (on_bytes (on_bytes x a).0 b).1)
unfolding on_bytes
on_append x [] b = (refl, refl)
on_append x (c ∷ a) b =
    let r = on_append (on_byte x c).0 a b in
    (r.0, ap (λ (l : List ℕ). (on_byte x c).1 ++ l) r.1 ∙ sym (append_assoc (on_byte x c).1 (on_bytes (on_byte x c).0 a).1 (on_bytes (on_bytes (on_byte x c).0 a).0 b).1))

-- ---- calls

-- what the rest of an input prints, with its end
abbrev printed_by : Script → List ℕ → List ℕ
printed_by x bytes = (on_bytes x bytes).1 ++ at_end (on_bytes x bytes).0

printed_append : (x : Script) (a b : List ℕ) → printed_by x (a ++ b) ≡ (on_bytes x a).1 ++ printed_by (on_bytes x a).0 b
printed_append x a b =
    let r = on_append x a b in
    ap₂ (λ (l : List ℕ) (y : Script). l ++ at_end y) r.1 r.0
    ∙ append_assoc (on_bytes x a).1 (on_bytes (on_bytes x a).0 b).1 (at_end (on_bytes (on_bytes x a).0 b).0)

-- a call and the rest of its piece, before more of the input
call_append : (space : ℕ) (x : Script) (piece more : List ℕ)
    → (on_piece space x piece).output ++ printed_by (on_piece space x piece).script (drop (on_piece space x piece).used piece ++ more) ≡ printed_by x (piece ++ more)
call_append space x piece more =
    let t = on_piece space x piece in
    let rest = drop t.used piece in
    ap (λ (l : List ℕ). t.output ++ l) (printed_append t.script rest more)
    ∙ sym (append_assoc t.output (on_bytes t.script rest).1 (printed_by (on_bytes t.script rest).0 more))
    ∙ ap (λ (u : Script × List ℕ). u.1 ++ printed_by u.0 more) (nothing_lost space x piece)
    ∙ sym (printed_append x piece more)

-- all that is printed, where the rest of an input comes after what is left
abbrev in_all : Progress → List ℕ → List ℕ
in_all p rest = p.output ++ printed_by p.script (p.left ++ rest)

calls : (p : Progress) (handed : List Handed) → in_all (after_calls p handed) [] ≡ in_all p (input handed)
unfolding after_calls
calls p [] = refl
calls p (h ∷ handed) =
    let piece = p.left ++ h.piece in
    let t = on_piece h.space p.script piece in
    calls (next_call p h) handed
    ∙ append_assoc p.output t.output (printed_by t.script (drop t.used piece ++ input handed))
    ∙ ap (λ (l : List ℕ). p.output ++ l) (call_append h.space p.script piece (input handed))
    ∙ ap (λ (l : List ℕ). p.output ++ printed_by p.script l) (append_assoc p.left h.piece (input handed))

-- an input in pieces prints what its lines print
pub cut_lines : (handed : List Handed) → (from_start handed).left ≡ [] → (from_start handed).output ++ at_end (from_start handed).script ≡ output no_bench (lines_of (input handed))
unfolding on_bytes
cut_lines handed e =
    let p = from_start handed in
    sym (ap (λ (l : List ℕ). p.output ++ printed_by p.script (l ++ [])) e)
    ∙ calls (record { script = started; left = []; output = [] }) handed
    ∙ whole (input handed) started [] tt (record { room = refl; size = refl; text = refl })

roomy : (p : Progress) (handed : List Handed) → Roomy handed → p.left ≡ [] → (after_calls p handed).left ≡ []
unfolding after_calls
roomy p [] r e = e
roomy p (h ∷ handed) r e =
    let piece = p.left ++ h.piece in
    let same : piece ≡ h.piece = ap (λ (l : List ℕ). l ++ h.piece) e in
    let all = used_up h.space p.script piece (subst⁻¹ (λ (l : List ℕ). length l * room ≤ h.space) same r.0) in
    roomy (next_call p h) handed r.1 (ap (λ (t : Taken). drop t.used piece) all ∙ drop-length piece)

pub none_left : (handed : List Handed) → Roomy handed → (from_start handed).left ≡ []
none_left handed r = roomy (record { script = started; left = []; output = [] }) handed r refl
