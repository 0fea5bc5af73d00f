-- The first fault found, of any list of checks.
-- Assumes nothing.
use mathlib.Core.Path.{◌≡◌, refl, ap, ◌∙◌}
use mathlib.Core.Bool.{Bool, true, false}
use mathlib.Core.List.{List, [], ◌∷◌, ◌++◌}
use Prim.Native.Nat.{ℕ}
use native.Mathlib.Omega.{arith}
use Rattle.katan.specs.Bit.{pick}
use Rattle.katan.specs.Checks.{Outcome, value, refused, Check, checked}

-- the first check finds a fault, or passes the call on
module _ {A : Type 0} (c : Check) (cs : List Check) (r : Outcome A) where
  pub fault_first : c.fault ≡ true → checked (c ∷ cs) r ≡ refused c.number
  fault_first e = ap (λ (b : Bool). pick b (refused c.number) (checked cs r)) e

  pub fault_later : c.fault ≡ false → checked (c ∷ cs) r ≡ checked cs r
  fault_later e = ap (λ (b : Bool). pick b (refused c.number) (checked cs r)) e

-- first one list, then another
pub checked_append : {A : Type 0} (cs ds : List Check) (r : Outcome A) → checked (cs ++ ds) r ≡ checked cs (checked ds r)
checked_append [] ds r = refl
checked_append (c ∷ cs) ds r = ap (pick c.fault (refused c.number)) (checked_append cs ds r)

abbrev pub NoFault : List Check → Type 0
NoFault [] = Unit {0}
NoFault (c ∷ cs) = (c.fault ≡ false) × NoFault cs

pub no_fault_found : {A : Type 0} (cs : List Check) (r : Outcome A) → NoFault cs → checked cs r ≡ r
no_fault_found [] r z = refl
no_fault_found (c ∷ cs) r z = rw z.0 (no_fault_found cs r z.1)

-- a fault that is found after checks that find none
pub fault_after : {A : Type 0} (cs : List Check) (c : Check) (ds : List Check) (r : Outcome A) → NoFault cs → c.fault ≡ true → checked (cs ++ c ∷ ds) r ≡ refused c.number
fault_after cs c ds r z e = checked_append cs (c ∷ ds) r ∙ no_fault_found cs (checked (c ∷ ds) r) z ∙ fault_first c ds r e

module _ {A : Type 0} (a : A) where
  passed : (k : ℕ) (rest : Outcome A) (b : Bool) → pick b (refused k) rest ≡ value a → (b ≡ false) × (rest ≡ value a)
  passed k rest true e = let z : ◌≡◌ {A = ℕ} 0 1 = cc in absurd (omega arith)
  passed k rest false e = (refl, e)

  -- a call that is not refused found no fault
  pub all_passed : (cs : List Check) (r : Outcome A) → checked cs r ≡ value a → NoFault cs × (r ≡ value a)
  all_passed [] r e = (tt, e)
  all_passed (c ∷ cs) r e =
      let one = passed c.number (checked cs r) c.fault e in
      let rest = all_passed cs r one.1 in
      ((one.0, rest.0), rest.1)

-- a fault is found whatever would be answered without it
module _ {A B : Type 0} (a : A) (r : Outcome B) (n : ℕ) where
  same_fault : (k : ℕ) (x : Outcome A) (y : Outcome B) (b : Bool) → (x ≡ refused n → y ≡ refused n) → pick b (refused k) x ≡ refused n → pick b (refused k) y ≡ refused n
  same_fault k x y true f e = let z : k ≡ n = cc in ap refused z
  same_fault k x y false f e = f e

  pub fault_found : (cs : List Check) → checked cs (value a) ≡ refused n → checked cs r ≡ refused n
  fault_found [] e = let z : ◌≡◌ {A = ℕ} 0 1 = cc in absurd (omega arith)
  fault_found (c ∷ cs) e = same_fault c.number (checked cs (value a)) (checked cs r) c.fault (fault_found cs) e

-- a check that is made twice in a row
pub check_twice : {A : Type 0} (c : Check) (cs : List Check) (o : Outcome A) → checked (c ∷ []) (checked (c ∷ cs) o) ≡ checked (c ∷ cs) o
check_twice c cs o = go c.fault
  where
    go : (t : Bool) → pick t (refused c.number) (pick t (refused c.number) (checked cs o)) ≡ pick t (refused c.number) (checked cs o)
    go true = refl
    go false = refl
