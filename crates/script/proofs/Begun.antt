-- A line that has begun, and the part of a piece that goes on with it.
-- Assumes nothing.
use Prim.Native.Nat.{ℕ, zero, suc, ◌+◌, ◌-◌, ◌≤◌, ◌<◌, min}
use mathlib.Core.Path.{◌≡◌, refl, sym, ap, ◌∙◌}
use mathlib.Core.Bool.{Bool, true, false}
use mathlib.Core.List.{List, [], ◌∷◌}
use native.Mathlib.Omega.{arith}
use lib.Dec.{eqb, ltb, leb}
use lib.ListN.{length, take, drop, get_or, set, drop_of_length-le}
use lib.Seq.{drop-cons, take_all, paste, paste-zero, paste-suc}
use native.Mathlib.Nat.{add-zero}
use Rattle.std.specs.List.{position, position_or_len}
use Rattle.std.specs.Option.{unwrap_or}
use Rattle.std.specs.Prelude.{cond, not, Some, None}
use Rattle.katan.specs.Bit.{pick}
use borrow.Author.Tests.{lt-ltb, le-ltb, eq-eqb, ne_eqb, leb-true, leb-false, ltb-false}
use Rattle.script_answers.specs.Printed.{line_feed}
use Rattle.script_interpreter.specs.Session.{session_line}
use Rattle.script.specs.Pieces.{pending_room, kept, line_in, on_line_feed, on_byte, at_end}
use Rattle.script.specs.inner.Kept.{kept_all, line_end}
use Rattle.script.specs.declared.Pending.{Pending}
use Rattle.script.specs.declared.Script.{Script}

-- ---- the first line feed

abbrev is_feed : ℕ → Bool
is_feed b = eqb b line_feed

end_or_len : (piece : List ℕ) → line_end piece ≡ position_or_len is_feed piece
unfolding line_end
end_or_len [] = refl
end_or_len (b ∷ piece) = go (eqb b line_feed) (end_or_len piece)
  where
    go : (t : Bool) → line_end piece ≡ position_or_len is_feed piece → pick t 0 (suc (line_end piece)) ≡ cond (not t) (1 + position_or_len is_feed piece) 0
    go true e = refl
    go false e = omega (arith, e)

pub end_within : (piece : List ℕ) → line_end piece ≤ length piece
unfolding line_end
end_within [] = omega arith
end_within (b ∷ piece) = go (eqb b line_feed) (end_within piece)
  where
    go : (t : Bool) → line_end piece ≤ length piece → pick t 0 (suc (line_end piece)) ≤ suc (length piece)
    go true h = omega arith
    go false h = omega arith

-- as the code looks for it
pub end_position : (piece : List ℕ) → line_end piece ≡ unwrap_or (position is_feed piece) (length piece)
end_position piece = go (ltb (position_or_len is_feed piece) (length piece)) refl
  where
    go : (t : Bool) → ltb (position_or_len is_feed piece) (length piece) ≡ t → line_end piece ≡ unwrap_or (cond t (Some (position_or_len is_feed piece)) None) (length piece)
    go true e = end_or_len piece
    go false e = omega (arith, end_or_len piece, end_within piece, ltb-false (position_or_len is_feed piece) (length piece) e)

-- ---- the bytes that a line keeps

abbrev pub pending : List ℕ → ℕ → Pending
pending bytes n = record { bytes = bytes; length = n }

kept_full : (p : Pending) (x : ℕ) → pending_room ≤ p.length → kept p x ≡ p
unfolding kept
kept_full p x h = rw (le-ltb p.length pending_room h)

all_full : (p : Pending) (part : List ℕ) → pending_room ≤ p.length → kept_all p part ≡ p
unfolding kept_all
all_full p [] h = refl
all_full p (x ∷ part) h = ap (λ (q : Pending). kept_all q part) (kept_full p x h) ∙ all_full p part h

kept_more : (bytes : List ℕ) (n x : ℕ) → n < pending_room → kept (pending bytes n) x ≡ pending (set bytes n x) (n + 1)
unfolding kept
kept_more bytes n x h = rw (lt-ltb n pending_room h)

kept_next : (bytes part : List ℕ) (n i : ℕ) → i < length part → n < pending_room
    → kept_all (pending bytes n) (drop i part) ≡ kept_all (pending (set bytes n (get_or part i 0)) (n + 1)) (drop (suc i) part)
unfolding kept_all
kept_next bytes part n i h room =
    ap (kept_all (pending bytes n)) (drop-cons part i 0 h) ∙ ap (λ (q : Pending). kept_all q (drop (suc i) part)) (kept_more bytes n (get_or part i 0) room)

-- the first j of them
kept_some : (bytes part : List ℕ) (n j : ℕ) → length bytes ≡ pending_room → n + j ≤ pending_room → j ≤ length part
    → kept_all (pending bytes n) part ≡ kept_all (pending (paste bytes n part j) (n + j)) (drop j part)
kept_some bytes part n zero size room some = λ i. kept_all (pending (paste-zero bytes n part i) (sym (add-zero n) i)) part
kept_some bytes part n (suc j) size room some =
    let next : n + j + 1 ≡ n + suc j = omega arith in
    kept_some bytes part n j size (omega arith) (omega arith)
    ∙ kept_next (paste bytes n part j) part (n + j) j (omega arith) (omega arith)
    ∙ (λ i. kept_all (pending (paste-suc bytes n part j 0 (omega arith) (omega arith) i) (next i)) (drop (suc j) part))

-- as many as there is room for
kept_room : (p : Pending) (part : List ℕ) (j : ℕ) → length p.bytes ≡ pending_room → p.length < pending_room → j ≡ min (length part) (pending_room - p.length)
    → kept_all p part ≡ pending (paste p.bytes p.length part j) (p.length + j)
unfolding kept_all
kept_room p part j size few f = kept_some p.bytes part p.length j size (omega arith) (omega arith) ∙ last (leb pending_room (p.length + j)) refl
  where
    last : (t : Bool) → leb pending_room (p.length + j) ≡ t → kept_all (pending (paste p.bytes p.length part j) (p.length + j)) (drop j part) ≡ pending (paste p.bytes p.length part j) (p.length + j)
    last true k = all_full (pending (paste p.bytes p.length part j) (p.length + j)) (drop j part) (leb-true _ _ k)
    last false k = ap (kept_all (pending (paste p.bytes p.length part j) (p.length + j))) (drop_of_length-le part {i = j} (omega (arith, leb-false pending_room (p.length + j) k)))

pub kept_paste : (p : Pending) (part : List ℕ) (n j : ℕ) → length p.bytes ≡ pending_room → n ≡ min p.length pending_room → j ≡ min (length part) (pending_room - n)
    → kept_all p part ≡ pending (paste p.bytes n part j) (p.length + j)
kept_paste p part n j size e f = go (leb pending_room p.length) refl
  where
    go : (t : Bool) → leb pending_room p.length ≡ t → kept_all p part ≡ pending (paste p.bytes n part j) (p.length + j)
    go true g =
        let full : pending_room ≤ p.length = leb-true pending_room p.length g in
        let none : 0 ≡ j = omega arith in
        all_full p part full ∙ (λ i. pending (paste-zero p.bytes n part i) (sym (add-zero p.length) i)) ∙ ap (λ (k : ℕ). pending (paste p.bytes n part k) (p.length + k)) none
    go false g =
        let few : p.length < pending_room = leb-false pending_room p.length g in
        let here : p.length ≡ n = omega arith in
        kept_room p part j size few (omega arith) ∙ ap (λ (m : ℕ). pending (paste p.bytes m part j) (p.length + j)) here

-- ---- a byte

abbrev pub holding : Script → Pending → Script
holding x p = record { session = x.session; pending = p }

pub byte_feed : (x : Script) (b : ℕ) → eqb b line_feed ≡ true → on_byte x b ≡ on_line_feed x
unfolding on_byte
byte_feed x b e = rw e

pub byte_more : (x : Script) (b : ℕ) → eqb b line_feed ≡ false → on_byte x b ≡ (holding x (kept x.pending b), [])
unfolding on_byte
byte_more x b e = rw e

-- ---- the end of the input

pub at_end_none : (x : Script) → x.pending.length ≡ 0 → at_end x ≡ []
unfolding at_end
at_end_none x e = rw (eq-eqb x.pending.length 0 e)

pub at_end_some : (x : Script) → (x.pending.length ≡ 0 → ⊥) → at_end x ≡ (session_line x.session (line_in x.pending)).1
unfolding at_end
at_end_some x e = rw (ne_eqb x.pending.length 0 e)

-- a line that has begun shows no more bytes than there is room for
pub shown_all : (bytes : List ℕ) (n m : ℕ) → length bytes ≡ pending_room → m ≡ min pending_room n → take m bytes ≡ take n bytes
shown_all bytes n m e f = go (leb n pending_room) refl
  where
    go : (t : Bool) → leb n pending_room ≡ t → take m bytes ≡ take n bytes
    go true h = let k : m ≡ n = omega (arith, leb-true n pending_room h) in ap (λ (j : ℕ). take j bytes) k
    go false h =
        let a : length bytes ≤ m = omega (arith, leb-false n pending_room h) in
        let b : length bytes ≤ n = omega (arith, leb-false n pending_room h) in
        take_all m bytes a ∙ sym (take_all n bytes b)
