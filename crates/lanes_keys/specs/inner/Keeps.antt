-- The rule of k(i) with longer distances. No promise of a public function cites it.
-- Assumes nothing.
use Rattle.std.specs.Prelude.{ℕ, ◌-◌, ◌*◌, ◌<◌, ◌≤◌, ◌≡◌}
use Rattle.katan.specs.Bit.{xor}
use Rattle.katan.specs.Key.{key_length}

-- from p up to q, a rule's words keep the rule of k(i) with its distances s times as long
abbrev pub Keeps : ℕ → (p q : ℕ) → (ℕ → ℕ) → Type 0
Keeps s p q f = (i : ℕ) → p ≤ i → i < q → f i ≡ xor (xor (xor (f (i - key_length * s)) (f (i - 61 * s))) (f (i - 50 * s))) (f (i - 13 * s))
