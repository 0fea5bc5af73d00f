-- What encryption and decryption of one block answer.
-- Assumes nothing.
use Rattle.std.specs.Prelude.{ℕ, List, [], ◌∷◌}
use Rattle.katan.specs.Bit.{number_in}
use Rattle.katan.specs.Machine.{encryption, decryption}
use Rattle.katan.specs.Checks.{Outcome, value, checked, variant_check, key_check, block_check}

-- checks 1, 2 and 7, and the block y that is made where they find no fault
abbrev pub block_answer : ℕ → List ℕ → ℕ → ℕ → Outcome ℕ
block_answer v key x y = checked (variant_check v ∷ key_check key ∷ block_check v x ∷ []) (value y)

abbrev pub encrypt_answer : ℕ → List ℕ → ℕ → Outcome ℕ
encrypt_answer v key x = block_answer v key x (encryption v (number_in key) x)

abbrev pub decrypt_answer : ℕ → List ℕ → ℕ → Outcome ℕ
decrypt_answer v key x = block_answer v key x (decryption v (number_in key) x)
