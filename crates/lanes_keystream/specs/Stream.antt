-- A keystream (document 02, (i)): counter mode. What a call answers, and what its output holds afterwards.
-- Assumes nothing.
use Rattle.std.specs.Prelude.{ℕ, ◌+◌, ◌-◌, ◌/◌, ◌%◌, ◌^◌, List, [], ◌∷◌, ltb, length, get_or}
use Rattle.katan.specs.Bit.{xor, tabulate, number_in, bytes_of}
use Rattle.katan.specs.Variant.{width_of}
use Rattle.katan.specs.Machine.{encryption}
use Rattle.katan.specs.Checks.{Outcome, value, Check, checked, size_check, variant_check, key_check, block_check}
use Rattle.katan.specs.Lent.{lent_after}
use Rattle.lanes.specs.Many.{any}

-- the bytes of a block
abbrev pub block_bytes : ℕ → ℕ
block_bytes v = width_of v / 8

-- the blocks of m bytes: the last may be short
abbrev pub block_count : (v m : ℕ) → ℕ
block_count v m = (m + (block_bytes v - 1)) / block_bytes v

-- byte j of the stream: block i is the encryption of start + i, low byte first
abbrev pub stream_byte : (v key start j : ℕ) → ℕ
stream_byte v key start j = get_or (bytes_of (block_bytes v) (encryption v key (start + j / block_bytes v))) (j % block_bytes v) 0

-- byte j of the output: the message's combined with the stream's by xor
abbrev pub out_byte : (v key start : ℕ) → List ℕ → (j : ℕ) → ℕ
out_byte v key start message j = xor (get_or message j 0) (stream_byte v key start j)

unfoldable pub streamed : (v key start : ℕ) → List ℕ → List ℕ
streamed v key start message = tabulate (out_byte v key start message) 0 (length message)

-- the most bytes of a message
abbrev pub longest_message : ℕ
longest_message = 4096

-- 14: the start plus the number of blocks exceeds 2^n, or the message is too long
abbrev pub end_check : (v start : ℕ) → List ℕ → Check
end_check v start message =
    record {
      number = 14;
      fault = any (λ b. b) (ltb (2 ^ width_of v) (start + block_count v (length message)) ∷ ltb longest_message (length message) ∷ []);
    }

-- 1, 2, 14, 7
abbrev pub stream_checks : (v : ℕ) → List ℕ → (start : ℕ) → (message out : List ℕ) → List Check
stream_checks v key start message out =
    variant_check v ∷ key_check key ∷ size_check (length message) out ∷ end_check v start message ∷ block_check v start ∷ []

abbrev pub stream_answer : (v : ℕ) → List ℕ → (start : ℕ) → (message out : List ℕ) → Outcome (Unit {0})
stream_answer v key start message out = checked (stream_checks v key start message out) (value tt)

-- a refusal leaves the output as it was
abbrev pub stream_of : (v : ℕ) → List ℕ → (start : ℕ) → (message out : List ℕ) → List ℕ
stream_of v key start message out =
    lent_after (λ ys. ys) (checked (stream_checks v key start message out) (value (streamed v (number_in key) start message))) out
