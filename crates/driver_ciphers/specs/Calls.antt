-- What a driver's calls on one block, on a clock's bits and on the bit rate answer: words, into those lent for them.
-- Assumes nothing.
use Rattle.std.specs.Prelude.{ℕ, List, [], ◌∷◌}
use Rattle.katan.specs.Checks.{Outcome, Check, checked, variant_check, size_check}
use Rattle.katan_cipher.specs.Answers.{encrypt_answer, decrypt_answer}
use Rattle.katan_origin.specs.Origin.{origin_answer}
use Rattle.katan_origin.specs.declared.ClockBits.{ClockBits}
use Rattle.katan_rate.specs.Rate.{rate_answer}

-- the version of the driver's calls: it rises with every new call, and with every change of a call's parameters, its numbers or a layout
abbrev pub interface_version : ℕ
interface_version = 8

-- 1 of a variant number, 2 of the memory lent for n words; what the call itself answers comes after them
abbrev pub lent_checks : (v n : ℕ) → (out : List ℕ) → List Check
lent_checks v n out = variant_check v ∷ size_check n out ∷ []

-- the lent memory that holds a word
abbrev pub word : ℕ → List ℕ
word x = x ∷ []

abbrev pub word_call : ℕ → (out : List ℕ) → Outcome ℕ → Outcome ℕ
word_call v out answer = checked (lent_checks v 1 out) answer

abbrev pub encrypt_call : ℕ → List ℕ → ℕ → (out : List ℕ) → Outcome ℕ
encrypt_call v key x out = word_call v out (encrypt_answer v key x)

abbrev pub decrypt_call : ℕ → List ℕ → ℕ → (out : List ℕ) → Outcome ℕ
decrypt_call v key x out = word_call v out (decrypt_answer v key x)

abbrev pub rate_call : ℕ → ℕ → (out : List ℕ) → Outcome ℕ
rate_call v f out = word_call v out (rate_answer v f)

abbrev pub origin_words : ℕ
origin_words = 3

-- fa, fb and the block bits looked up
abbrev pub clock_words : ClockBits → List ℕ
clock_words b = b.fa ∷ b.fb ∷ b.looked_up ∷ []

abbrev pub clock_call : ℕ → (out : List ℕ) → Outcome ClockBits → Outcome ClockBits
clock_call v out answer = checked (lent_checks v origin_words out) answer

-- in all 1, 2, 15, 7
abbrev pub origin_call : ℕ → List ℕ → ℕ → ℕ → (out : List ℕ) → Outcome ClockBits
origin_call v key x t out = clock_call v out (origin_answer v key x t)
