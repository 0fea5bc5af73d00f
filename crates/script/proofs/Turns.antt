-- A turn of the loop over a piece: its first line, and what is printed of it.
-- Assumes nothing.
use Prim.Native.Nat.{ℕ, suc, ◌+◌, ◌-◌, ◌≤◌, ◌<◌}
use mathlib.Core.Path.{◌≡◌, refl, sym, ap, ap₂, ◌∙◌, subst, subst⁻¹}
use mathlib.Core.Bool.{Bool, true, false}
use mathlib.Core.List.{List, [], ◌∷◌, ◌++◌, append_assoc, append-nil}
use native.Mathlib.Nat.{not-suc-le-zero, le_of_suc-le-suc, sub-zero, zero-add, add_assoc, add-zero}
use native.Mathlib.Numerals.{add-one}
use native.Mathlib.Omega.{arith}
use lib.Dec.{eqb}
use lib.ListN.{length, take, drop, length-drop, drop_of_length-le, take-append-drop}
use lib.Seq.{take-append_seam, length-take-le, take_all, drop-drop, paste, take-paste, drop-paste, length-paste}
use borrow.Author.Tests.{eqb-true}
use Rattle.katan.specs.Bit.{pick}
use Rattle.script_answers.specs.Printed.{line_feed, room}
use Rattle.script_interpreter.specs.Session.{session_line, result_of}
use Rattle.script_interpreter.specs.declared.LineResult.{LineResult}
use Rattle.script.specs.Pieces.{kept, emptied, line_in, on_line_feed, Taken, nothing_taken, taken_after, on_piece, answered_as, written_to}
use Rattle.script.specs.inner.Kept.{kept_all, line_end}
use Rattle.script.specs.inner.Steps.{not_ended, line_of, taken_with, step_taken, Fits, Steps}
use Rattle.std.specs.Prelude.{Option, Some, None}
use Rattle.script_answers.specs.declared.Printed.{Printed}
use Rattle.script.specs.declared.Pending.{Pending}
use Rattle.script.specs.declared.Script.{Script}
use Rattle.script.specs.declared.Step.{Step}
use Rattle.script.specs.declared.Answered.{Answered}
use Rattle.script.proofs.Begun.{end_within, holding, byte_feed, byte_more}
use Rattle.script.proofs.Room.{line_fits}
use Rattle.script.proofs.Taken.{byte_taken, byte_left}

pub after_after : (m n : ℕ) (o p : List ℕ) (t : Taken) → taken_after m o (taken_after n p t) ≡ taken_after (m + n) (o ++ p) t
after_after m n o p t =
    let make : ℕ → List ℕ → Taken = λ (k : ℕ) (l : List ℕ). record { script = t.script; used = k; output = l } in
    ap₂ make (sym (add_assoc m n t.used)) (sym (append_assoc o p t.output))

pub after_none : (t : Taken) → t ≡ taken_after 0 [] t
after_none t = ap (λ (n : ℕ). record { script = t.script; used = n; output = t.output }) (sym (zero-add t.used))

-- bytes without a line feed print nothing
plain : (space : ℕ) (x : Script) (piece : List ℕ)
    → on_piece space x piece ≡ taken_after (line_end piece) [] (on_piece space (holding x (kept_all x.pending (take (line_end piece) piece))) (drop (line_end piece) piece))
unfolding line_end kept_all
plain space x [] = after_none (on_piece space x [])
plain space x (b ∷ piece) = go (eqb b line_feed) refl (plain space (holding x (kept x.pending b)) piece)
  where
    go : (t : Bool) → eqb b line_feed ≡ t
        → on_piece space (holding x (kept x.pending b)) piece ≡ taken_after (line_end piece) [] (on_piece space (holding x (kept_all (kept x.pending b) (take (line_end piece) piece))) (drop (line_end piece) piece))
        → on_piece space x (b ∷ piece) ≡ taken_after (pick t 0 (suc (line_end piece))) [] (on_piece space (holding x (kept_all x.pending (take (pick t 0 (suc (line_end piece))) (b ∷ piece)))) (drop (pick t 0 (suc (line_end piece))) (b ∷ piece)))
    go true e more = after_none (on_piece space x (b ∷ piece))
    go false e more =
        byte_taken space x b piece (holding x (kept x.pending b), []) (byte_more x b e) (omega arith)
        ∙ ap (λ (n : ℕ). taken_after 1 [] (on_piece n (holding x (kept x.pending b)) piece)) (sub-zero space)
        ∙ ap (taken_after 1 []) more
        ∙ after_after 1 (line_end piece) [] [] (on_piece space (holding x (kept_all (kept x.pending b) (take (line_end piece) piece))) (drop (line_end piece) piece))
        ∙ ap (λ (n : ℕ). taken_after n [] (on_piece space (holding x (kept_all (kept x.pending b) (take (line_end piece) piece))) (drop (line_end piece) piece))) (omega arith)

-- a line feed stands after them
feed_next : (piece : List ℕ) → line_end piece < length piece → drop (line_end piece) piece ≡ line_feed ∷ drop (suc (line_end piece)) piece
unfolding line_end
feed_next [] h = absurd (not-suc-le-zero h)
feed_next (b ∷ piece) h = go (eqb b line_feed) refl (feed_next piece) h
  where
    go : (t : Bool) → eqb b line_feed ≡ t → (line_end piece < length piece → drop (line_end piece) piece ≡ line_feed ∷ drop (suc (line_end piece)) piece)
        → pick t 0 (suc (line_end piece)) < suc (length piece)
        → drop (pick t 0 (suc (line_end piece))) (b ∷ piece) ≡ line_feed ∷ drop (suc (pick t 0 (suc (line_end piece)))) (b ∷ piece)
    go true e more g = ap (λ (c : ℕ). c ∷ piece) (eqb-true b line_feed e)
    go false e more g = more (le_of_suc-le-suc g)

-- ---- the first line of a piece

module _ (space : ℕ) (x : Script) (piece : List ℕ) where
  abbrev end : ℕ
  end = line_end piece

  -- the line that has begun, up to its line feed
  abbrev line : Pending
  line = kept_all x.pending (take end piece)

  abbrev more : Script
  more = holding x line

  abbrev stopped : Taken
  stopped = taken_after end [] (nothing_taken more)

  no_feed : end ≡ length piece → on_piece space x piece ≡ stopped
  unfolding on_piece
  no_feed e = plain space x piece ∙ ap (λ (l : List ℕ). taken_after end [] (on_piece space more l)) (drop_of_length-le piece {i = end} (omega arith))

  module _ (h : end < length piece) where
    at_feed : on_piece space x piece ≡ taken_after end [] (on_piece space more (line_feed ∷ drop (suc end) piece))
    at_feed = plain space x piece ∙ ap (λ (l : List ℕ). taken_after end [] (on_piece space more l)) (feed_next piece h)

    no_space : space < length (on_line_feed more).1 → on_piece space x piece ≡ stopped
    no_space g = at_feed ∙ ap (taken_after end []) (byte_left space more line_feed (drop (suc end) piece) (on_line_feed more) (byte_feed more line_feed refl) g)

    with_line : length (on_line_feed more).1 ≤ space
        → on_piece space x piece ≡ taken_after (end + 1) (on_line_feed more).1 (on_piece (space - length (on_line_feed more).1) (on_line_feed more).0 (drop (end + 1) piece))
    with_line g =
        at_feed
        ∙ ap (taken_after end []) (byte_taken space more line_feed (drop (suc end) piece) (on_line_feed more) (byte_feed more line_feed refl) g)
        ∙ after_after end 1 [] (on_line_feed more).1 (on_piece (space - length (on_line_feed more).1) (on_line_feed more).0 (drop (suc end) piece))
        ∙ ap (λ (n : ℕ). taken_after (end + 1) (on_line_feed more).1 (on_piece (space - length (on_line_feed more).1) (on_line_feed more).0 (drop n piece))) (sym (add-one end))

  stops : end ≤ length piece → on_piece space x piece ≡ stopped → Steps space x piece (not_ended x.session line end)
  stops h e = record { whole = e; within = h; fits = tt }

-- the code's step
abbrev pub line_step : Pending → (end : ℕ) → LineResult → Step
line_step p end t = record { script = record { session = t.session; pending = emptied p }; used = end + 1; printed = Some t.printed }

module _ (space : ℕ) (x : Script) (piece : List ℕ) (n : ℕ) (p : Pending) (e : n ≡ line_end piece) (k : p ≡ kept_all x.pending (take n piece)) where
  same_line : p ≡ line space x piece
  same_line = k ∙ ap (λ (m : ℕ). kept_all x.pending (take m piece)) e

  abbrev printed : Pending → LineResult
  printed q = result_of (session_line x.session (line_in q))

  stops_here : on_piece space x piece ≡ stopped space x piece → Steps space x piece (not_ended x.session p n)
  stops_here w = subst⁻¹ (Steps space x piece) (ap₂ (not_ended x.session) same_line e) (stops space x piece (end_within piece) w)

  pub step_none : n ≡ length piece → Steps space x piece (not_ended x.session p n)
  step_none h = stops_here (no_feed space x piece (sym e ∙ h))

  module _ (t : LineResult) (f : t ≡ printed p) (h : n ≡ length piece → ⊥) where
    result : t ≡ printed (line space x piece)
    result = f ∙ ap printed same_line

    size : t.printed.length ≡ length (on_line_feed (more space x piece)).1
    size = ap (λ (u : LineResult). u.printed.length) result

    pub step_full : space < t.printed.length → Steps space x piece (not_ended x.session p n)
    step_full g = stops_here (no_space space x piece (omega (arith, end_within piece)) (omega (arith, size)))

    pub step_line : t.printed.length ≤ space → Steps space x piece (line_step p n t)
    step_line g =
        let o = (on_line_feed (more space x piece)).1 in
        let s = line_step (line space x piece) (line_end piece) (printed (line space x piece)) in
        let fits : length o ≤ space = omega (arith, size) in
        let canonical : Steps space x piece s =
        record {
          whole =
              with_line space x piece (omega (arith, end_within piece)) fits
              ∙ ap (λ (l : List ℕ). taken_after (line_end piece + 1) l (on_piece (space - length o) s.script (drop (line_end piece + 1) piece))) (sym (take-append_seam o _));
          within = omega (arith, end_within piece);
          fits = (omega arith, line_fits x.session (line_in (line space x piece)), fits);
        } in
        subst⁻¹ (Steps space x piece) (ap₂ (λ (q : Pending) (m : ℕ). line_step q m t) same_line e ∙ ap (line_step (line space x piece) (line_end piece)) result) canonical

-- ---- the loop over a piece

-- what the calls so far have taken and printed, at the start of the output
pub record Going (piece start : List ℕ) (x : Script) (out : List ℕ) (now : Script) (used count : ℕ) : Type 0 where
  pub within : used ≤ length piece
  pub has_space : count ≤ length start
  pub same_length : length out ≡ length start
  pub untouched : drop count out ≡ drop count start
  pub whole : on_piece (length start) x piece ≡ taken_after used (take count out) (on_piece (length start - count) now (drop used piece))

pub going_first : (piece start : List ℕ) (x : Script) → Going piece start x start x 0 0
going_first piece start x =
    record { within = omega arith; has_space = omega arith; same_length = refl; untouched = refl; whole = rw (sub-zero (length start)) (after_none (on_piece (length start) x piece)) }

-- at the end of the loop
module _ (piece start : List ℕ) (x : Script) (out : List ℕ) (now : Script) (used count : ℕ) where
  pub record Promised : Type 0 where
    pub result : ◌≡◌ {A = Answered} (record { script = now; used = used; count = count }) (answered_as (on_piece (length start) x piece))
    pub output : out ≡ written_to start (on_piece (length start) x piece).output

  keeps_promise : count ≤ length start → length out ≡ length start → drop count out ≡ drop count start
      → on_piece (length start) x piece ≡ taken_after used (take count out) (nothing_taken now) → Promised
  keeps_promise h same rest w =
      let size : length (take count out) ≡ count = length-take-le count out (omega arith) in
      let all : take count out ++ [] ≡ take count out = append-nil (take count out) in
      let written : (on_piece (length start) x piece).output ≡ take count out = ap (λ (t : Taken). t.output) w ∙ all in
      let make : ℕ → ℕ → Answered = λ (n m : ℕ). record { script = now; used = n; count = m } in
      record {
        result = ap₂ make (sym (add-zero used)) (sym (ap length all ∙ size)) ∙ sym (ap answered_as w);
        output =
            sym (take-append-drop count out)
            ∙ ap (λ (l : List ℕ). take count out ++ l) (rest ∙ ap (λ (n : ℕ). drop n start) (sym size))
            ∙ ap (written_to start) (sym written);
      }

module _ (piece start : List ℕ) (x : Script) (out : List ℕ) (now : Script) (used count : ℕ) (g : Going piece start x out now used count) where
  pub going_end : length piece ≤ used → Promised piece start x out now used count
  unfolding on_piece
  going_end h =
      keeps_promise piece start x out now used count g.has_space g.same_length g.untouched
      (g.whole ∙ ap (λ (l : List ℕ). taken_after used (take count out) (on_piece (length start - count) now l)) (drop_of_length-le piece h))

  -- the step that the code's call of next_line gives
  module _ (s : Step) (t : Steps (length out - count) now (take (length piece - used) (drop used piece)) s) where
    rest_whole : take (length piece - used) (drop used piece) ≡ drop used piece
    rest_whole = take_all (length piece - used) (drop used piece) (simp length-drop (omega arith))

    pub step_within : used + s.used ≤ length piece
    step_within = omega (arith, t.within, simp length-drop at (ap length rest_whole), g.within)

    step_whole : on_piece (length start) x piece ≡ taken_after used (take count out) (step_taken (length start - count) (drop used piece) s)
    step_whole =
        let w = subst (λ (l : List ℕ). on_piece (length out - count) now l ≡ step_taken (length out - count) l s) rest_whole t.whole in
        g.whole ∙ ap (taken_after used (take count out)) (subst (λ (n : ℕ). on_piece (n - count) now (drop used piece) ≡ step_taken (n - count) (drop used piece) s) g.same_length w)

    pub going_stop : s.printed ≡ None → Promised piece start x out s.script (used + s.used) count
    going_stop f =
        let w = step_whole ∙ ap (λ (o : Option Printed). taken_after used (take count out) (taken_with (length start - count) (drop used piece) s.script s.used o)) f in
        keeps_promise piece start x out s.script (used + s.used) count g.has_space g.same_length g.untouched
        (w ∙ after_after used s.used (take count out) [] (nothing_taken s.script) ∙ ap (λ (l : List ℕ). taken_after (used + s.used) l (nothing_taken s.script)) (append-nil (take count out)))

    module _ (p : Printed) (f : s.printed ≡ Some p) where
      line_space : Fits (length out - count) s.used (Some p)
      line_space = subst (Fits (length out - count) s.used) f t.fits

      pub step_some : 1 ≤ s.used
      step_some = line_space.0

      pub step_room : p.length ≤ room
      step_room = line_space.1

      pub step_space : count + p.length ≤ length start
      step_space = omega (arith, line_space.2, g.has_space, g.same_length)

      pub going_on : length p.bytes ≡ room → (put : List ℕ) → put ≡ paste out count p.bytes p.length → Going piece start x put s.script (used + s.used) (count + p.length)
      going_on room_of put e =
          let n = p.length in
          let bytes = p.bytes in
          let w = step_whole ∙ ap (λ (o : Option Printed). taken_after used (take count out) (taken_with (length start - count) (drop used piece) s.script s.used o)) f in
          let in_out : count + n ≤ length out = omega (arith, step_space, g.same_length) in
          let below : count ≤ length out = omega arith in
          let sized : n ≤ length bytes = omega (arith, step_room) in
          let less : length start - count - n ≡ length start - (count + n) = omega arith in
          record {
            within = step_within;
            has_space = step_space;
            same_length = ap length e ∙ length-paste out count bytes n in_out sized ∙ g.same_length;
            untouched =
                ap (drop (count + n)) e
                ∙ drop-paste out count bytes n below sized
                ∙ sym (drop-drop n count out)
                ∙ ap (drop n) g.untouched
                ∙ drop-drop n count start;
            whole =
                w
                ∙ after_after used s.used (take count out) (line_of p) (on_piece (length start - count - n) s.script (drop s.used (drop used piece)))
                ∙ ap₂ (λ (k : ℕ) (l : List ℕ). taken_after (used + s.used) (take count out ++ line_of p) (on_piece k s.script l)) less (drop-drop s.used used piece)
                ∙ ap (λ (l : List ℕ). taken_after (used + s.used) l (on_piece (length start - (count + n)) s.script (drop (used + s.used) piece))) (sym (ap (take (count + n)) e ∙ take-paste out count bytes n below sized));
          }
