-- An array filled by a rule, one entry after the other, and the list that it is then.
-- Assumes nothing.
use mathlib.Core.Path.{◌≡◌, sym, ◌∙◌}
use mathlib.Core.List.{List}
use Prim.Native.Nat.{ℕ, ◌+◌, ◌<◌}
use native.Mathlib.Omega.{arith}
use borrow.Author.Count.{below_more}
use lib.ListN.{length, get_or, set}
use lib.Seq.{ext_get_or, get_or-set_same, get_or-set_other}
use Rattle.katan.specs.Bit.{tabulate}
use Rattle.katan.specs.inner.Within.{Entries}
use Rattle.katan.proofs.Tables.{entry, length-tabulate}

pub filled : (f : ℕ → ℕ) (xs : List ℕ) (i x : ℕ) → i < length xs → Entries f i xs → x ≡ f i → Entries f (i + 1) (set xs i x)
filled f xs i x h g e =
    below_more (λ (j : ℕ). get_or (set xs i x) j 0 ≡ f j) i
    (λ j q. get_or-set_other xs i j x 0 (λ s. omega arith) ∙ g j q)
    (get_or-set_same xs i x 0 h ∙ e)

pub full : (f : ℕ → ℕ) (n : ℕ) (xs : List ℕ) → length xs ≡ n → Entries f n xs → xs ≡ tabulate f 0 n
full f n xs l e =
    ext_get_or 0 xs (tabulate f 0 n) (l ∙ sym (length-tabulate f 0 n))
    (λ i q.
    let p : i < n = omega (arith, l) in
    e i p ∙ sym (entry f n i 0 p))
