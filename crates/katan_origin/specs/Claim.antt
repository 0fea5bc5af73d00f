-- What is claimed of a clock's two bits (document 02, (vii)).
-- Assumes nothing.
use Rattle.std.specs.Prelude.{ℕ, zero, suc, ◌*◌, ◌^◌, ◌<◌, ◌≤◌, ◌≡◌, List, [], ◌∷◌, length}
use Rattle.katan.specs.Bit.{bit, number_in}
use Rattle.katan.specs.Checks.{value, refused}
use Rattle.katan.specs.Clock.{clock, block, registers}
use Rattle.katan.specs.Machine.{registers_at}
use Rattle.katan.specs.Variant.{row_of, width_of}
use Rattle.katan.specs.declared.Registers.{Registers}
use Rattle.katan_origin.specs.Chains.{place_at, clock_input, fa_from, fb_from, fa_at, fb_at}
use Rattle.katan_origin.specs.Origin.{origin_of, origin_answer}

-- the registers after t plain clocks of the block x at position 0
abbrev pub after_clocks : (v key x t : ℕ) → Registers
after_clocks v key x zero = registers (row_of v) x
after_clocks v key x (suc t) = clock (row_of v) (clock_input v key t) (after_clocks v key x t)

-- worked examples: a variant, a clock, and the block bits looked up for it
abbrev pub worked : List (ℕ × ℕ × ℕ)
worked =
    (1, 0, 11) ∷ (1, 1, 11) ∷ (1, 2, 11) ∷ (1, 3, 11) ∷ (1, 4, 20) ∷ (1, 23, 957) ∷ (2, 23, 147) ∷ (3, 23, 61)
    ∷ (4, 0, 11) ∷ (4, 1, 11) ∷ (4, 2, 11) ∷ (4, 3, 11) ∷ (4, 4, 20) ∷ (4, 23, 957) ∷ (5, 23, 147) ∷ (6, 23, 61)
    ∷ []

abbrev pub Counted : List (ℕ × ℕ × ℕ) → Type 0
Counted [] = Unit {0}
Counted (c ∷ cs) = ((key x : ℕ) → (origin_of c.0 key x c.1).looked_up ≡ c.2) × Counted cs

-- THE CLAIM: but for the worked examples and the two lines on calls, of every variant number, key, block and clock
pub record FollowedBack : Type 0 where
  -- the equations, with no bound on how often they are followed
  pub fa_followed : (v key x t : ℕ) → fa_at v key x t ≡ fa_from v key x (fb_at v key x) t
  pub fb_followed : (v key x t : ℕ) → fb_at v key x t ≡ fb_from v key x (fa_at v key x) t
  -- the plain clocks are the machine's: those of whole rounds lead to its registers
  pub positions : (v key x p : ℕ) → block (row_of v) (after_clocks v key x ((row_of v).clocks * p)) ≡ registers_at v key 0 x p
  -- each register bit is the one that the chains find
  pub in_l1 : (v key x t i : ℕ) → i < (row_of v).len1 → (place_at (fb_at v key x) (registers (row_of v) x).l1 t i).bit ≡ bit (after_clocks v key x t).l1 i
  pub in_l2 : (v key x t i : ℕ) → i < (row_of v).len2 → (place_at (fa_at v key x) (registers (row_of v) x).l2 t i).bit ≡ bit (after_clocks v key x t).l2 i
  -- fa and fb are the bits that enter L2 and L1 at their clock
  pub into_l2 : (v key x t : ℕ) → (origin_of v key x t).fa ≡ bit (after_clocks v key x (suc t)).l2 0
  pub into_l1 : (v key x t : ℕ) → (origin_of v key x t).fb ≡ bit (after_clocks v key x (suc t)).l1 0
  -- the count depends on row and clock alone
  pub same_count : (v key x v' key' x' t : ℕ) → row_of v ≡ row_of v' → (origin_of v key x t).looked_up ≡ (origin_of v' key' x' t).looked_up
  pub counts : Counted worked
  -- a late clock gets 15, whatever the block; every call with no fault is answered
  pub late : (v : ℕ) (key : List ℕ) (x t : ℕ) → 1 ≤ v → v ≤ 6 → length key ≡ 10 → 23 < t → origin_answer v key x t ≡ refused 15
  pub answered : (v : ℕ) (key : List ℕ) (x t : ℕ) → 1 ≤ v → v ≤ 6 → length key ≡ 10 → t ≤ 23 → x < 2 ^ width_of v → origin_answer v key x t ≡ value (origin_of v (number_in key) x t)
