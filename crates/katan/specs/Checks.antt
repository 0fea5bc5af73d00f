-- Turned away (document 01): the checks by number, and the first fault found.
-- Assumes nothing.
use Rattle.std.specs.Prelude.{ℕ, ◌^◌, Bool, true, not, List, [], ◌∷◌, leb, ltb, eqb, length, Result, Ok, Err}
use Rattle.katan.specs.Bit.{pick}
use Rattle.katan.specs.Sizes.{key_bytes}
use Rattle.katan.specs.Counter.{rounds}
use Rattle.katan.specs.Variant.{width_of}
use Rattle.katan.specs.declared.Refusal.{Refusal}
use Rattle.katan.specs.declared.Refusal.TheVariants.{BadVariant, BadLength, BadKind, FieldNotZero, BadLane, BadPosition, BadBlock, EmptyMask, OutOfTurn, OtherBytes, EmptyLane, BadRate, BadForm, BeyondEnd, BadClock, Contradiction}

-- the number of each refusal: document 02's from 14 on
abbrev pub number_of : Refusal → ℕ
number_of BadVariant = 1
number_of BadLength = 2
number_of BadKind = 3
number_of FieldNotZero = 4
number_of BadLane = 5
number_of BadPosition = 6
number_of BadBlock = 7
number_of EmptyMask = 8
number_of OutOfTurn = 9
number_of OtherBytes = 10
number_of EmptyLane = 11
number_of BadRate = 12
number_of BadForm = 13
number_of BeyondEnd = 14
number_of BadClock = 15
number_of Contradiction = 16

-- what a call answers: a value, or a refusal's number
pub data Outcome (A : Type 0) : Type 0 where
  value : A → Outcome A
  refused : ℕ → Outcome A

-- what the code gives back, a value or a refusal, as such an answer
abbrev pub outcome_by : {A B : Type 0} → (A → B) → Result A Refusal → Outcome B
outcome_by f (Ok x) = value (f x)
outcome_by f (Err r) = refused (number_of r)

abbrev pub outcome : {A : Type 0} → Result A Refusal → Outcome A
outcome = outcome_by (λ x. x)

-- a check: its number, and whether it finds a fault
pub record Check : Type 0 where
  pub number : ℕ
  pub fault : Bool

-- the first fault found, in the list's order; the answer where there is none
abbrev pub checked : {A : Type 0} → List Check → Outcome A → Outcome A
checked [] r = r
checked (c ∷ cs) r = pick c.fault (refused c.number) (checked cs r)

-- ---- the checks that several calls share

-- 2: lent memory has not n elements
abbrev pub size_check : {B : Type 0} → ℕ → List B → Check
size_check n s = record { number = 2; fault = not (eqb (length s) n) }

-- 1: the variant is not 1 to 6
abbrev pub variant_check : ℕ → Check
variant_check v = record { number = 1; fault = pick (leb 1 v) (ltb 6 v) true }

-- 2: a key is not 10 bytes
abbrev pub key_check : List ℕ → Check
key_check key = size_check key_bytes key

-- 6: a position is over 254
abbrev pub position_check : ℕ → Check
position_check p = record { number = 6; fault = ltb rounds p }

-- 7: a block is 2^n or more
abbrev pub block_check : ℕ → ℕ → Check
block_check v x = record { number = 7; fault = leb (2 ^ width_of v) x }
