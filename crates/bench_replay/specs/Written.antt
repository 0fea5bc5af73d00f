-- Every list of calls can be written down in the encoding, as far as its numbers fit.
-- Assumes nothing.
use Rattle.std.specs.Prelude.{ℕ, ◌*◌, ◌^◌, ◌<◌, ◌≡◌, true, List, [], ◌∷◌, ◌++◌, length}
use Rattle.bench.specs.Calls.{Call, arrival, reading}
use Rattle.katan.specs.Bit.{bytes_of}
use Rattle.bench_replay.specs.Encoding.{calls_in, answer_length, fits}

-- the number in a call's head
abbrev pub head_number : Call → ℕ
head_number (arrival s) = length s
head_number (reading i) = i

abbrev pub call_bytes : Call → List ℕ
call_bytes (arrival s) = 1 ∷ bytes_of 4 (length s) ++ s
call_bytes (reading i) = 2 ∷ bytes_of 4 i

unfoldable pub list_bytes : List Call → List ℕ
list_bytes [] = []
list_bytes (c ∷ calls) = call_bytes c ++ list_bytes calls

-- each record's length and each lane's number takes 4 bytes
abbrev pub NumbersFit : List Call → Type 0
NumbersFit [] = Unit {0}
NumbersFit (c ∷ calls) = (head_number c < 2 ^ 32) × NumbersFit calls

-- such a list is read back as it was, and is not refused where the output has room for exactly its answers
abbrev pub EveryListWritten : Type 0
EveryListWritten =
    (calls : List Call) → NumbersFit calls
    → (calls_in (list_bytes calls) ≡ calls) × (fits (list_bytes calls) (answer_length * length calls) ≡ true)
