-- What is claimed of blocks with smudged bits (document 02, (ix)).
-- Assumes nothing.
use Rattle.std.specs.Prelude.{ℕ, ◌-◌, ◌^◌, ◌<◌, ◌≤◌, ◌≡◌, true, false, ◌||◌, List, length}
use Rattle.katan.specs.Bit.{bit, and, or}
use Rattle.katan.specs.Checks.{value, refused}
use Rattle.katan.specs.Key.{key_length}
use Rattle.katan.specs.Machine.{registers_at}
use Rattle.katan.specs.Variant.{width_of}
use Rattle.katan_sheet.specs.Sheet.{smudged_at, joined, contradicts}
use Rattle.katan_sheet.specs.Answers.{key_given, block_parts_check, smudged_answer, join_answer}
use Rattle.katan_sheet.specs.declared.Known.{Known}

-- the number x of n bits is a filling: it has each bit that is known
pub record Fills (n : ℕ) (k : Known ℕ) (x : ℕ) : Type 0 where
  pub in_width : x < 2 ^ n
  pub has_ones : (i : ℕ) → i < n → bit k.ones i ≡ 1 → bit x i ≡ 1
  pub has_zeros : (i : ℕ) → i < n → bit k.zeros i ≡ 1 → bit x i ≡ 0

-- of the lowest n bits: whatever k knows, l knows, and as the same
pub record Keeps (n : ℕ) (k l : Known ℕ) : Type 0 where
  pub ones_kept : (i : ℕ) → i < n → bit k.ones i ≡ 1 → bit l.ones i ≡ 1
  pub zeros_kept : (i : ℕ) → i < n → bit k.zeros i ≡ 1 → bit l.zeros i ≡ 1

-- what is given where all n bits of x are known
abbrev pub whole : (n x : ℕ) → Known ℕ
whole n x = record { ones = x; zeros = 2 ^ n - 1 - x }

-- THE CLAIM, of every variant number and position
pub record Smudges : Type 0 where
  -- each result bit shown as known is the bit that every filling gives
  pub filled : (v p : ℕ) (key block : Known ℕ) (k x : ℕ) → Fills key_length key k → Fills (width_of v) block x → Fills (width_of v) (smudged_at v key block p) (registers_at v k 0 x p)
  -- and there is a filling, where nothing is known both ways
  pub fillable : (n : ℕ) (k : Known ℕ) → k.ones < 2 ^ n → contradicts k ≡ false → Fills n k k.ones
  -- knowing more neither loses nor alters a known result bit
  pub kept : (v p : ℕ) (key block key' block' : Known ℕ) → contradicts key' ≡ false → contradicts block' ≡ false
      → Keeps key_length key key' → Keeps (width_of v) block block' → Keeps (width_of v) (smudged_at v key block p) (smudged_at v key' block' p)
  -- knowing everything gives exactly the registers
  pub exact : (v p k x : ℕ) → k < 2 ^ key_length → x < 2 ^ width_of v → smudged_at v (whole key_length k) (whole (width_of v) x) p ≡ whole (width_of v) (registers_at v k 0 x p)
  -- at position 0 it is the block as given
  pub first : (v : ℕ) (key block : Known ℕ) → block.ones < 2 ^ width_of v → block.zeros < 2 ^ width_of v → contradicts block ≡ false → smudged_at v key block 0 ≡ block
  -- a result is again a block of n bits, none of them known both ways
  pub ones_fit : (v p : ℕ) (key block : Known ℕ) → (smudged_at v key block p).ones < 2 ^ width_of v
  pub zeros_fit : (v p : ℕ) (key block : Known ℕ) → (smudged_at v key block p).zeros < 2 ^ width_of v
  pub no_contradiction : (v p : ℕ) (key block : Known ℕ) → contradicts (smudged_at v key block p) ≡ false
  -- a join knows a bit exactly where either does
  pub either_ones : (k l : Known ℕ) (i : ℕ) → bit (joined k l).ones i ≡ or (bit k.ones i) (bit l.ones i)
  pub either_zeros : (k l : Known ℕ) (i : ℕ) → bit (joined k l).zeros i ≡ or (bit k.zeros i) (bit l.zeros i)
  pub both_ways : (k l : Known ℕ) → joined k l ≡ joined l k
  pub with_itself : (k : Known ℕ) → joined k k ≡ k
  -- a bit of it is known both ways exactly where it is so on one of the two, or between them
  pub clashes : (k l : Known ℕ) (i : ℕ) → and (bit (joined k l).ones i) (bit (joined k l).zeros i)
      ≡ or (or (and (bit k.ones i) (bit k.zeros i)) (and (bit l.ones i) (bit l.zeros i))) (or (and (bit k.ones i) (bit l.zeros i)) (and (bit l.ones i) (bit k.zeros i)))
  -- its fillings are those that both have
  pub fills_both : (n x : ℕ) (k l : Known ℕ) → Fills n k x → Fills n l x → Fills n (joined k l) x
  pub fills_each : (n x : ℕ) (k l : Known ℕ) → Fills n (joined k l) x → Fills n k x × Fills n l x
  -- its run knows at least what the run of each knows
  pub run_joined : (v p : ℕ) (key block key' block' : Known ℕ) → contradicts (joined key key') ≡ false → contradicts (joined block block') ≡ false
      → let run = smudged_at v (joined key key') (joined block block') p in
      Keeps (width_of v) (smudged_at v key block p) run × Keeps (width_of v) (smudged_at v key' block' p) run
  -- a sheet with no fault is run, and two with none are joined
  pub answered : (v : ℕ) (block : Known ℕ) (key_ones key_zeros : List ℕ) (p : ℕ) → 1 ≤ v → v ≤ 6 → length key_ones ≡ 10 → length key_zeros ≡ 10 → p ≤ 254
      → block.ones < 2 ^ width_of v → block.zeros < 2 ^ width_of v → contradicts block ≡ false → contradicts (key_given key_ones key_zeros) ≡ false
      → smudged_answer v block key_ones key_zeros p ≡ value (smudged_at v (key_given key_ones key_zeros) block p)
  pub join_answered : (v : ℕ) (block : Known ℕ) (key_ones key_zeros : List ℕ) (other : Known ℕ) (other_key_ones other_key_zeros : List ℕ) → 1 ≤ v → v ≤ 6
      → length key_ones ≡ 10 → length key_zeros ≡ 10 → length other_key_ones ≡ 10 → length other_key_zeros ≡ 10
      → block.ones < 2 ^ width_of v → block.zeros < 2 ^ width_of v → other.ones < 2 ^ width_of v → other.zeros < 2 ^ width_of v
      → contradicts (joined block other) ≡ false → contradicts (joined (key_given key_ones key_zeros) (key_given other_key_ones other_key_zeros)) ≡ false
      → join_answer v block key_ones key_zeros other other_key_ones other_key_zeros ≡ value (joined block other, joined (key_given key_ones key_zeros) (key_given other_key_ones other_key_zeros))
  -- 7 comes before 16, and a contradiction with no other fault gets 16
  pub wide_first : (v : ℕ) (block : Known ℕ) (key_ones key_zeros : List ℕ) (p : ℕ) → 1 ≤ v → v ≤ 6 → length key_ones ≡ 10 → length key_zeros ≡ 10 → p ≤ 254
      → (block_parts_check v block).fault ≡ true → smudged_answer v block key_ones key_zeros p ≡ refused 7
  pub contradicted : (v : ℕ) (block : Known ℕ) (key_ones key_zeros : List ℕ) (p : ℕ) → 1 ≤ v → v ≤ 6 → length key_ones ≡ 10 → length key_zeros ≡ 10 → p ≤ 254
      → (block_parts_check v block).fault ≡ false → contradicts block || contradicts (key_given key_ones key_zeros) ≡ true → smudged_answer v block key_ones key_zeros p ≡ refused 16
  pub join_wide_first : (v : ℕ) (block : Known ℕ) (key_ones key_zeros : List ℕ) (other : Known ℕ) (other_key_ones other_key_zeros : List ℕ) → 1 ≤ v → v ≤ 6
      → length key_ones ≡ 10 → length key_zeros ≡ 10 → length other_key_ones ≡ 10 → length other_key_zeros ≡ 10
      → (block_parts_check v block).fault || (block_parts_check v other).fault ≡ true → join_answer v block key_ones key_zeros other other_key_ones other_key_zeros ≡ refused 7
  pub join_contradicted : (v : ℕ) (block : Known ℕ) (key_ones key_zeros : List ℕ) (other : Known ℕ) (other_key_ones other_key_zeros : List ℕ) → 1 ≤ v → v ≤ 6
      → length key_ones ≡ 10 → length key_zeros ≡ 10 → length other_key_ones ≡ 10 → length other_key_zeros ≡ 10
      → (block_parts_check v block).fault ≡ false → (block_parts_check v other).fault ≡ false
      → contradicts (joined block other) || contradicts (joined (key_given key_ones key_zeros) (key_given other_key_ones other_key_zeros)) ≡ true
      → join_answer v block key_ones key_zeros other other_key_ones other_key_zeros ≡ refused 16
