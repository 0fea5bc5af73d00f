-- Lists written part by part.
-- Assumes nothing.
use mathlib.Core.Path.{◌≡◌, refl, sym, ap, ◌∙◌}
use mathlib.Core.Bool.{Bool, true, false}
use mathlib.Core.List.{List, ◌++◌}
use Prim.Native.Nat.{ℕ, ◌+◌, ◌-◌, ◌<◌, ◌≤◌}
use native.Mathlib.Omega.{arith}
use borrow.Author.Count.{below_more}
use borrow.Author.Tests.{ltb-true, ltb-false}
use lib.Dec.{ltb}
use lib.ListN.{length, get_or, take, drop, set, get_or-append}
use lib.Seq.{get_or-take, get_or-append-add, get_or-set_same, get_or-set_other, length-take-le}
use Rattle.katan.specs.inner.Within.{Entries}
use Rattle.lanes_keystream.specs.inner.Batch.{Written}

-- what the list went by before, it goes by up to the part's end
pub written_on : (f g : ℕ → ℕ) (from to : ℕ) (old new : List ℕ) → Written from to g old new → ((j : ℕ) → from ≤ j → j < to → g j ≡ f j) → Entries f from old → Entries f to new
written_on f g from to old new w same e j q = go (ltb j from) refl
  where
    go : (b : Bool) → ltb j from ≡ b → get_or new j 0 ≡ f j
    go true d =
        let l = ltb-true j from d in
        w.before j l ∙ e j l
    go false d =
        let l = ltb-false j from d in
        w.there j l q ∙ same j l q

-- a part that is lent, and given back as ys
pub part_written : (at k : ℕ) (xs ys : List ℕ) → at + k ≤ length xs → length ys ≡ k → Written at (at + k) (λ j. get_or ys (j - at) 0) xs (take at xs ++ (ys ++ drop k (drop at xs)))
part_written at k xs ys h l =
    let t : length (take at xs) ≡ at = length-take-le at xs (omega arith) in
    let new = take at xs ++ (ys ++ drop k (drop at xs)) in
    record {
      before = λ j q. get_or-append (take at xs) _ 0 j (omega (arith, t)) ∙ get_or-take at xs j 0 q;
      there = λ j p q.
          let e : length (take at xs) + (j - at) ≡ j = omega (arith, t) in
          ap (λ (i : ℕ). get_or new i 0) (sym e) ∙ get_or-append-add (take at xs) _ (j - at) 0 ∙ get_or-append ys _ 0 (j - at) (omega arith);
    }

-- one more element of a part
pub written_more : (from to : ℕ) (f : ℕ → ℕ) (old new : List ℕ) (x : ℕ) → from ≤ to → to < length new → Written from to f old new → x ≡ f to → Written from (to + 1) f old (set new to x)
written_more from to f old new x l h w e =
    record {
      before = λ j q. get_or-set_other new to j x 0 (λ s. omega arith) ∙ w.before j q;
      there = λ j p q.
          below_more (λ (k : ℕ). from ≤ k → get_or (set new to x) k 0 ≡ f k) to
          (λ k r s. get_or-set_other new to k x 0 (λ t. omega arith) ∙ w.there k s r)
          (λ s. get_or-set_same new to x 0 h ∙ e)
          j q p;
    }

-- the first part of a part
pub written_less : (from to less : ℕ) (f : ℕ → ℕ) (old new : List ℕ) → less ≤ to → Written from to f old new → Written from less f old new
written_less from to less f old new h w = record { before = w.before; there = λ j p q. w.there j p (omega arith) }
