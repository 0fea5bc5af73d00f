-- What a driver's calls on sheets answer: words and bytes, into those lent for them.
-- Assumes nothing.
use Rattle.std.specs.Prelude.{ℕ, ◌+◌, List, [], ◌∷◌, ◌++◌}
use Rattle.katan.specs.Bit.{bytes_of}
use Rattle.katan.specs.Checks.{Outcome, checked, variant_check, size_check}
use Rattle.katan.specs.Sizes.{key_bytes}
use Rattle.katan_sheet.specs.Answers.{smudged_answer, join_answer}
use Rattle.katan_sheet.specs.declared.Known.{Known}

-- the bits of a block: those known as 1, then those known as 0
abbrev pub known_words : Known ℕ → List ℕ
known_words k = k.ones ∷ k.zeros ∷ []

abbrev pub word_count : ℕ
word_count = 2

-- the bits of a key in the same way
abbrev pub known_bytes : Known ℕ → List ℕ
known_bytes k = bytes_of key_bytes k.ones ++ bytes_of key_bytes k.zeros

abbrev pub byte_count : ℕ
byte_count = key_bytes + key_bytes

-- in all 1, 2, 6, 7, 16
abbrev pub smudged_call : (v : ℕ) → Known ℕ → (key_ones key_zeros : List ℕ) → (p : ℕ) → (out : List ℕ) → Outcome (Known ℕ)
smudged_call v block key_ones key_zeros p out = checked (variant_check v ∷ size_check word_count out ∷ []) (smudged_answer v block key_ones key_zeros p)

-- in all 1, 2, 7, 16
abbrev pub join_call : (v : ℕ) → Known ℕ → (key_ones key_zeros : List ℕ) → (other : Known ℕ) → (other_key_ones other_key_zeros : List ℕ) → (out key_out : List ℕ) → Outcome (Known ℕ × Known ℕ)
join_call v block key_ones key_zeros other other_key_ones other_key_zeros out key_out =
    checked (variant_check v ∷ size_check word_count out ∷ size_check byte_count key_out ∷ []) (join_answer v block key_ones key_zeros other other_key_ones other_key_zeros)

-- what the memory lent for the block and for the key then holds
abbrev pub joined_words : Known ℕ × Known ℕ → List ℕ
joined_words s = known_words s.0

abbrev pub joined_bytes : Known ℕ × Known ℕ → List ℕ
joined_bytes s = known_bytes s.1
