-- The checks of a call, and what they say of its answer and its output.
-- Assumes nothing.
use mathlib.Core.Path.{◌≡◌, refl, sym, ap, ◌∙◌}
use mathlib.Core.Bool.{Bool, true, false}
use mathlib.Core.List.{List, [], ◌∷◌}
use Prim.Native.Nat.{ℕ, zero, suc, ◌*◌, ◌^◌, ◌<◌, ◌≤◌}
use native.Mathlib.Omega.{arith}
use borrow.Author.Tests.{eq-eqb, ne_eqb, le-ltb, leb-false}
use lib.Dec.{leb}
use lib.ListN.{length, get_or}
use Rattle.katan.specs.Bit.{pick}
use Rattle.katan.specs.Variant.{row_of}
use Rattle.katan.specs.Checks.{Outcome, value, refused, checked, variant_check}
use Rattle.katan.specs.Lent.{lent_after}
use Rattle.katan.specs.declared.Row.{Row}
use Rattle.katan.proofs.Checked.{fault_first, fault_later}
use Rattle.lanes.specs.declared.Direction.{Direction}
use Rattle.katan.specs.Sizes.{lane_count, key_bytes}
use Rattle.lanes.specs.Many.{results, any, lengths_check, blocks_check, many_checks, many_answer, many_of}

-- ---- tests on lists

pub none_of : (b c : Bool) → pick b true c ≡ false → (b ≡ false) × (c ≡ false)
none_of true c e = let z : ◌≡◌ {A = ℕ} 0 1 = cc in absurd (omega arith)
none_of false c e = (refl, e)

any_none : (f : ℕ → Bool) (xs : List ℕ) → any f xs ≡ false → (i : ℕ) → i < length xs → f (get_or xs i 0) ≡ false
any_none f [] e i q = absurd (omega arith)
any_none f (x ∷ xs) e zero q = (none_of (f x) (any f xs) e).0
any_none f (x ∷ xs) e (suc i) q = any_none f xs (none_of (f x) (any f xs) e).1 i (omega arith)

-- ---- check 7

module _ (v : ℕ) (row : Row) (r : row ≡ row_of v) (blocks : List ℕ) where
  pub blocks_fault : any (leb (2 ^ row.n)) blocks ≡ (blocks_check v blocks).fault
  blocks_fault = ap (λ (w : Row). any (leb (2 ^ w.n)) blocks) r

  pub all_below : any (leb (2 ^ row.n)) blocks ≡ false → (i : ℕ) → i < length blocks → get_or blocks i 0 < 2 ^ row.n
  all_below f i q = leb-false (2 ^ row.n) (get_or blocks i 0) (any_none (leb (2 ^ row.n)) blocks f i q)

-- ---- the first fault found

module _ (v : ℕ) (keys blocks out : List ℕ) where
  pub no_fault : (length blocks ≡ 0 → ⊥) → length blocks ≤ lane_count → length keys ≡ key_bytes * length blocks → length out ≡ length blocks → (lengths_check keys blocks out).fault ≡ false
  no_fault some few enough h =
      rw (ne_eqb (length blocks) 0 some, le-ltb lane_count (length blocks) few, eq-eqb (length keys) (key_bytes * length blocks) enough, eq-eqb (length out) (length blocks) h)

  module _ {A : Type 0} (r : Outcome A) where
    module _ (e : (variant_check v).fault ≡ false) where
      past_1 : checked (many_checks v keys blocks out) r ≡ checked (lengths_check keys blocks out ∷ blocks_check v blocks ∷ []) r
      past_1 = fault_later (variant_check v) (lengths_check keys blocks out ∷ blocks_check v blocks ∷ []) r e

      module _ (f : (lengths_check keys blocks out).fault ≡ false) where
        past_2 : checked (many_checks v keys blocks out) r ≡ checked (blocks_check v blocks ∷ []) r
        past_2 = past_1 ∙ fault_later (lengths_check keys blocks out) (blocks_check v blocks ∷ []) r f

        finds_7 : (blocks_check v blocks).fault ≡ true → checked (many_checks v keys blocks out) r ≡ refused 7
        finds_7 g = past_2 ∙ fault_first (blocks_check v blocks) [] r g

        finds_none : (blocks_check v blocks).fault ≡ false → checked (many_checks v keys blocks out) r ≡ r
        finds_none g = past_2 ∙ fault_later (blocks_check v blocks) [] r g

  -- ---- the answer, and the output

  module _ (d : Direction) where
    abbrev pub Promised : Outcome (Unit {0}) → List ℕ → Type 0
    Promised o out' = (o ≡ many_answer v keys blocks out) × (out' ≡ many_of d v keys blocks out)

    refuses : (k : ℕ) → checked (many_checks v keys blocks out) (value (tt {0})) ≡ refused k → checked (many_checks v keys blocks out) (value (results d v keys blocks)) ≡ refused k
        → Promised (refused k) out
    refuses k h g = (sym h, sym (ap (λ (o : Outcome (List ℕ)). lent_after (λ (ys : List ℕ). ys) o out) g))

    module _ (e : (variant_check v).fault ≡ false) where
      module _ (f : (lengths_check keys blocks out).fault ≡ false) where
        pub refuses_7 : (blocks_check v blocks).fault ≡ true → Promised (refused 7) out
        refuses_7 g = refuses 7 (finds_7 (value (tt {0})) e f g) (finds_7 (value (results d v keys blocks)) e f g)

        pub done : (blocks_check v blocks).fault ≡ false → (out' : List ℕ) → out' ≡ results d v keys blocks → Promised (value (tt {0})) out'
        done g out' p =
            (sym (finds_none (value (tt {0})) e f g), p ∙ sym (ap (λ (o : Outcome (List ℕ)). lent_after (λ (ys : List ℕ). ys) o out) (finds_none (value (results d v keys blocks)) e f g)))
