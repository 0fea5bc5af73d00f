-- What a call takes of a piece.
-- Assumes nothing.
use Prim.Native.Nat.{ℕ, suc, ◌+◌, ◌-◌, ◌*◌, ◌≤◌, ◌<◌}
use mathlib.Core.Path.{◌≡◌, refl, sym, ap, ap₂, ◌∙◌}
use mathlib.Core.Bool.{Bool, true, false}
use mathlib.Core.List.{List, [], ◌∷◌, ◌++◌, append_assoc, append-nil}
use native.Mathlib.Omega.{arith}
use lib.Dec.{leb}
use lib.ListN.{length, drop, length-append}
use lib.Seq.{drop-length}
use borrow.Author.Tests.{leb-true, le-leb, lt-leb}
use Rattle.katan.specs.Bit.{pick}
use Rattle.script_answers.specs.Printed.{room}
use Rattle.script.specs.Pieces.{on_byte, on_bytes, Taken, nothing_taken, taken_after, on_piece, all_taken, output_length}
use Rattle.script.specs.Claim.{and_the_rest, EveryPiece, EveryPieceRead}
use Rattle.script.specs.declared.Script.{Script}
use Rattle.script.proofs.Room.{byte_fits}

-- ---- a byte of a piece

module _ (space : ℕ) (x : Script) (b : ℕ) (piece : List ℕ) where
  -- with what it leaves and prints
  abbrev with_byte : Script × List ℕ → Taken
  with_byte u = taken_after 1 u.1 (on_piece (space - length u.1) u.0 piece)

  module _ (u : Script × List ℕ) (e : on_byte x b ≡ u) where
    pub byte_taken : length u.1 ≤ space → on_piece space x (b ∷ piece) ≡ with_byte u
    unfolding on_piece
    byte_taken h = rw (e, le-leb (length u.1) space h)

    pub byte_left : space < length u.1 → on_piece space x (b ∷ piece) ≡ nothing_taken x
    unfolding on_piece
    byte_left h = rw (e, lt-leb (length u.1) space h)

  -- it is taken or not
  by_byte : (P : Taken → Type 0) → (length (on_byte x b).1 ≤ space → P (with_byte (on_byte x b))) → P (nothing_taken x) → P (on_piece space x (b ∷ piece))
  unfolding on_piece
  by_byte P taken left = go (leb (length (on_byte x b).1) space) refl
    where
      go : (t : Bool) → leb (length (on_byte x b).1) space ≡ t → P (pick t (with_byte (on_byte x b)) (nothing_taken x))
      go true e = taken (leb-true _ _ e)
      go false e = left

-- ---- a piece

pub nothing_lost : (space : ℕ) (x : Script) (piece : List ℕ) → and_the_rest piece (on_piece space x piece) ≡ on_bytes x piece
unfolding on_piece on_bytes
nothing_lost space x [] = refl
nothing_lost space x (b ∷ piece) =
    let o = (on_byte x b).1 in
    let t = on_piece (space - length o) (on_byte x b).0 piece in
    let next : 1 + t.used ≡ suc t.used = omega arith in
    let rest = on_bytes t.script (drop t.used piece) in
    by_byte space x b piece (λ (u : Taken). and_the_rest (b ∷ piece) u ≡ on_bytes x (b ∷ piece))
    (λ h.
    ap (λ (n : ℕ). ((on_bytes t.script (drop n (b ∷ piece))).0, (o ++ t.output) ++ (on_bytes t.script (drop n (b ∷ piece))).1)) next
    ∙ ap (λ (l : List ℕ). (rest.0, l)) (append_assoc o t.output rest.1)
    ∙ ap (λ (u : Script × List ℕ). (u.0, o ++ u.1)) (nothing_lost (space - length o) (on_byte x b).0 piece))
    refl

has_space : (space : ℕ) (x : Script) (piece : List ℕ) → length (on_piece space x piece).output ≤ space
unfolding on_piece
has_space space x [] = omega arith
has_space space x (b ∷ piece) =
    by_byte space x b piece (λ (t : Taken). length t.output ≤ space)
    (λ h. simp length-append (omega (arith, has_space (space - length (on_byte x b).1) (on_byte x b).0 piece)))
    (omega arith)

within : (space : ℕ) (x : Script) (piece : List ℕ) → (on_piece space x piece).used ≤ length piece
unfolding on_piece
within space x [] = omega arith
within space x (b ∷ piece) =
    by_byte space x b piece (λ (t : Taken). t.used ≤ suc (length piece)) (λ h. omega (arith, within (space - length (on_byte x b).1) (on_byte x b).0 piece)) (omega arith)

goes_on : (space : ℕ) (x : Script) (piece : List ℕ) → room ≤ space → 1 ≤ length piece → 1 ≤ (on_piece space x piece).used
goes_on space x [] h g = omega arith
goes_on space x (b ∷ piece) h g = rw (byte_taken space x b piece (on_byte x b) refl (omega (arith, byte_fits x b))) (omega arith)

all_used : (space : ℕ) (x : Script) (piece : List ℕ) → length piece * room ≤ space → (on_piece space x piece).used ≡ length piece
unfolding on_piece
all_used space x [] h = refl
all_used space x (b ∷ piece) h =
    let f = byte_fits x b in
    rw (byte_taken space x b piece (on_byte x b) refl (omega arith)) (omega (arith, all_used (space - length (on_byte x b).1) (on_byte x b).0 piece (omega arith)))

pub used_up : (space : ℕ) (x : Script) (piece : List ℕ) → length piece * room ≤ space → on_piece space x piece ≡ all_taken x piece
unfolding on_bytes
used_up space x piece h =
    let t = on_piece space x piece in
    let u = all_used space x piece h in
    let none : drop t.used piece ≡ [] = ap (λ (n : ℕ). drop n piece) u ∙ drop-length piece in
    let make : ℕ → Script × List ℕ → Taken = λ (n : ℕ) (v : Script × List ℕ). record { script = v.0; used = n; output = v.1 } in
    let left : (t.script, t.output) ≡ on_bytes x piece =
    ap (λ (l : List ℕ). (t.script, l)) (sym (append-nil t.output))
    ∙ ap (λ (l : List ℕ). ((on_bytes t.script l).0, t.output ++ (on_bytes t.script l).1)) (sym none)
    ∙ nothing_lost space x piece
    in
    ap₂ make u left

-- THEOREM: for every script, piece and space a call loses nothing
pub every_piece : EveryPiece
every_piece space x piece =
    record {
      same = nothing_lost space x piece;
      has_space = has_space space x piece;
      within = within space x piece;
      goes_on = goes_on space x piece;
      used_up = used_up space x piece;
    }

-- THEOREM: all that the program reads at a time is taken in one call
pub every_piece_read : EveryPieceRead
every_piece_read x piece h = used_up output_length x piece (omega arith)
