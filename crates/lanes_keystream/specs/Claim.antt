-- What is claimed of a keystream: which calls are accepted, and what each of them gives.
-- Assumes nothing.
use Rattle.std.specs.Prelude.{ℕ, zero, suc, ◌+◌, ◌/◌, ◌^◌, ◌<◌, ◌≤◌, ◌≡◌, List, [], ◌∷◌, ◌++◌, length, take, drop}
use Rattle.katan.specs.Bit.{xor, bytes_of}
use Rattle.katan.specs.Variant.{width_of}
use Rattle.katan.specs.Checks.{Outcome, value, refused}
use Rattle.katan_cipher.specs.Answers.{encrypt_answer}
use Rattle.lanes_keystream.specs.Stream.{block_bytes, block_count, stream_answer, stream_of}

-- ---- one block at a time

-- the bytes of the block that `encrypt` answers; a refusal has none
abbrev pub answer_bytes : ℕ → Outcome ℕ → List ℕ
answer_bytes v (value y) = bytes_of (block_bytes v) y
answer_bytes v (refused k) = []

-- two lists combined by xor, as far as both go
abbrev pub combined : (xs ys : List ℕ) → List ℕ
combined [] ys = []
combined (x ∷ xs) [] = []
combined (x ∷ xs) (y ∷ ys) = xor x y ∷ combined xs ys

-- one block: `encrypt`'s answer for the number x combined with the message, as far as both go
abbrev pub one_singly : (v : ℕ) → List ℕ → (x : ℕ) → List ℕ → List ℕ
one_singly v key x message = combined message (answer_bytes v (encrypt_answer v key x))

-- count blocks, one after the other: the number x, then x + 1 for the message after it
unfoldable pub one_at_a_time : (v : ℕ) → List ℕ → (x count : ℕ) → List ℕ → List ℕ
one_at_a_time v key x zero message = []
one_at_a_time v key x (suc count) message = one_singly v key x message ++ one_at_a_time v key (suc x) count (drop (block_bytes v) message)

-- ---- the claims

module _ (v : ℕ) (key : List ℕ) (start : ℕ) (message out : List ℕ) where
  abbrev pub Accepted : Type 0
  Accepted = stream_answer v key start message out ≡ value tt

-- every call with no fault is accepted: each byte's block is below 2^n. A keystream that refuses more would keep the claims after it and break this one
abbrev pub SoundAccepted : Type 0
SoundAccepted =
    (v : ℕ) (key : List ℕ) (start : ℕ) (message out : List ℕ) → 1 ≤ v → v ≤ 6 → length key ≡ 10 → length out ≡ length message → length message ≤ 4096
    → start < 2 ^ width_of v → ((j : ℕ) → j < length message → start + j / block_bytes v < 2 ^ width_of v) → Accepted v key start message out

-- the output is what one-at-a-time encryption makes
abbrev pub EachBlockSingly : Type 0
EachBlockSingly =
    (v : ℕ) (key : List ℕ) (start : ℕ) (message out : List ℕ) → Accepted v key start message out
    → stream_of v key start message out ≡ one_at_a_time v key start (block_count v (length message)) message

-- a second pass with the same key and start is accepted and restores the message
abbrev pub SecondPassRestores : Type 0
SecondPassRestores =
    (v : ℕ) (key : List ℕ) (start : ℕ) (message out again : List ℕ) → Accepted v key start message out → length again ≡ length message
    → Accepted v key start (stream_of v key start message out) again × (stream_of v key start (stream_of v key start message out) again ≡ message)

-- the first m bytes of a message are accepted too, and their output is how that of the whole message starts
abbrev pub StartsAlike : Type 0
StartsAlike =
    (v : ℕ) (key : List ℕ) (start : ℕ) (message out : List ℕ) (m : ℕ) (less : List ℕ) → Accepted v key start message out → m ≤ length message → length less ≡ m
    → Accepted v key start (take m message) less × (stream_of v key start (take m message) less ≡ take m (stream_of v key start message out))
