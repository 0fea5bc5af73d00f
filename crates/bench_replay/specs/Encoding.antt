-- How a list of calls is laid out in bytes, and how their answers are. Numbers are low byte first. A byte past the end counts as 0.
-- Assumes nothing.
use Rattle.std.specs.Prelude.{ℕ, zero, suc, ◌+◌, ◌-◌, ◌*◌, Bool, true, ◌&&◌, ◌||◌, List, [], ◌∷◌, ◌++◌, map, eqb, leb, length, get_or, take, drop}
use Rattle.katan.specs.Bit.{pick, bytes_of}
use Rattle.katan.specs.Checks.{value, refused}
use Rattle.bench_record.specs.Fields.{part}
use Rattle.bench.specs.Calls.{Call, arrival, reading, done, again, at, Answer}

-- ---- the calls

-- A call begins with a head: in byte 0 its kind, 1 an arrival and 2 a read, and in bytes 1 to 4 a number. An arrival's is the length of its record,
-- which follows the head; a read's is the lane's.
abbrev pub head_length : ℕ
head_length = 5

abbrev pub is_arrival : List ℕ → Bool
is_arrival s = eqb (get_or s 0 0) 1

abbrev pub is_read : List ℕ → Bool
is_read s = eqb (get_or s 0 0) 2

abbrev pub call_number : List ℕ → ℕ
call_number s = part s 1 4

-- the bytes that the first call of s takes
unfoldable pub call_size : List ℕ → ℕ
call_size s = head_length + pick (is_arrival s) (call_number s) 0

-- whether s begins with a whole call, and that call
unfoldable pub is_call : List ℕ → Bool
is_call s = (is_arrival s || is_read s) && leb (call_size s) (length s)

unfoldable pub first_call : List ℕ → Call
first_call s = pick (is_arrival s) (arrival (take (call_number s) (drop head_length s))) (reading (call_number s))

-- where calls begin, each time with all the bytes from there on; the first n bytes belong to the call before
unfoldable pub starts_after : (n : ℕ) → List ℕ → List (List ℕ)
starts_after n [] = []
starts_after zero (x ∷ s) = (x ∷ s) ∷ starts_after (call_size (x ∷ s) - 1) s
starts_after (suc n) (x ∷ s) = starts_after n s

abbrev pub starts : List ℕ → List (List ℕ)
starts s = starts_after 0 s

unfoldable pub calls_in : List ℕ → List Call
calls_in s = map first_call (starts s)

abbrev pub all : {A : Type 0} → (A → Bool) → List A → Bool
all f [] = true
all f (x ∷ xs) = f x && all f xs

-- ---- the answers

-- An answer takes 13 bytes: in byte 0 its kind, 1 'done', 2 'again', 3 a read's, 4 a refusal; in bytes 1 to 4 a number, position or refusal's number; in
-- bytes 5 to 12 a total or registers, and 0 for a refusal.
abbrev pub answer_length : ℕ
answer_length = 13

unfoldable pub answer_fields : (kind first second : ℕ) → List ℕ
answer_fields kind first second = kind ∷ bytes_of 4 first ++ bytes_of 8 second

unfoldable pub answer_bytes : Answer → List ℕ
answer_bytes (value (done n t)) = answer_fields 1 n t
answer_bytes (value (again n t)) = answer_fields 2 n t
answer_bytes (value (at r)) = answer_fields 3 r.position.0 r.registers
answer_bytes (refused k) = answer_fields 4 k 0

unfoldable pub answers_bytes : List Answer → List ℕ
answers_bytes [] = []
answers_bytes (a ∷ rest) = answer_bytes a ++ answers_bytes rest

-- the bytes are whole calls to their end, and there is room for exactly their answers
unfoldable pub fits : List ℕ → ℕ → Bool
fits s room = all is_call (starts s) && eqb room (answer_length * length (starts s))
