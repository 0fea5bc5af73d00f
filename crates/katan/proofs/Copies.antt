-- A list written over another of its length, entry by entry; and one of another length, which is left as it was.
-- Assumes nothing.
use mathlib.Core.Path.{◌≡◌}
use mathlib.Core.List.{List}
use Prim.Native.Nat.{ℕ, ◌+◌, ◌<◌, ◌≤◌}
use native.Mathlib.Numerals.{add-one}
use lib.ListN.{length, get_or, take, set}
use lib.Seq.{take-suc, take-suc-set, take_all}
use borrow.Author.Tests.{eq-eqb, ne_eqb}
use Rattle.katan.specs.Lent.{fitted}

module _ (xs out : List ℕ) (i : ℕ) (e : take i out ≡ take i xs) where
  -- one entry more
  pub next_copied : i < length xs → i < length out → take (i + 1) (set out i (get_or xs i 0)) ≡ take (i + 1) xs
  next_copied h g = simp (add-one, take-suc-set out i (get_or xs i 0) g, take-suc xs i 0 h, e)

  pub all_copied : length xs ≤ i → length out ≤ i → out ≡ xs
  all_copied h g = simp (take_all i out g, take_all i xs h) at e

module _ (n : ℕ) (new old : List ℕ) where
  pub it_fits : length old ≡ n → fitted n new old ≡ new
  it_fits e = rw (eq-eqb (length old) n e)

  pub no_fit : (length old ≡ n → ⊥) → fitted n new old ≡ old
  no_fit e = rw (ne_eqb (length old) n e)
