-- THEOREM: the claim holds.
-- Assumes nothing.
use mathlib.Core.Path.{◌≡◌, refl, sym, ap₂}
use mathlib.Core.Bool.{Bool, true, false, ◌||◌}
use mathlib.Core.List.{List, [], ◌∷◌}
use Prim.Native.Nat.{ℕ, ◌^◌, ◌<◌, ◌≤◌}
use native.Mathlib.Omega.{arith}
use borrow.Author.Tests.{eq-eqb, le-ltb, lt-leb}
use lib.Bits.{or_comm, or_self}
use lib.ListN.{length}
use Rattle.katan.specs.Checks.{value, refused, variant_check, position_check}
use Rattle.katan.proofs.Checked.{fault_after}
use Rattle.katan.specs.Counter.{rounds}
use Rattle.katan.specs.Key.{key_length}
use Rattle.katan.specs.Variant.{width_of}
use Rattle.katan.proofs.Bits.{bit_or}
use Rattle.katan.proofs.Variants.{variant_sound}
use Rattle.katan_sheet.specs.Sheet.{smudged_at, joined, contradicts}
use Rattle.katan_sheet.specs.Answers.{key_given, key_parts_check, block_parts_check, contradiction_check, smudged_answer, join_answer}
use Rattle.katan_sheet.specs.Claim.{Smudges}
use Rattle.katan_sheet.specs.declared.Known.{Known}
use Rattle.katan_sheet.proofs.Sheets.{ones_in, zeros_in, consistent, sheet, fillable, keeps_join, keeps_join', clashes, fills_both, fills_less}
use Rattle.katan_sheet.proofs.Fillings.{shown, filled, kept}
use Rattle.katan_sheet.proofs.Exact.{exact, first}
use Rattle.katan_sheet.proofs.Refusals.{first_wide, second_wide, joint_clash}

ones_fit : (v p : ℕ) (key block : Known ℕ) → (smudged_at v key block p).ones < 2 ^ width_of v
unfolding smudged_at
ones_fit v p key block = ones_in (width_of v) (shown v key block p)

zeros_fit : (v p : ℕ) (key block : Known ℕ) → (smudged_at v key block p).zeros < 2 ^ width_of v
unfolding smudged_at
zeros_fit v p key block = zeros_in (width_of v) (shown v key block p)

no_contradiction : (v p : ℕ) (key block : Known ℕ) → contradicts (smudged_at v key block p) ≡ false
unfolding smudged_at
no_contradiction v p key block = consistent (width_of v) (shown v key block p)

answered : (v : ℕ) (block : Known ℕ) (key_ones key_zeros : List ℕ) (p : ℕ) → 1 ≤ v → v ≤ 6 → length key_ones ≡ 10 → length key_zeros ≡ 10 → p ≤ 254
    → block.ones < 2 ^ width_of v → block.zeros < 2 ^ width_of v → contradicts block ≡ false → contradicts (key_given key_ones key_zeros) ≡ false
    → smudged_answer v block key_ones key_zeros p ≡ value (smudged_at v (key_given key_ones key_zeros) block p)
answered v block key_ones key_zeros p least most ten ten' early fits fits' c c' =
    rw (variant_sound v least most, eq-eqb (length key_ones) 10 ten, eq-eqb (length key_zeros) 10 ten', le-ltb rounds p early, lt-leb (2 ^ width_of v) block.ones fits, lt-leb (2 ^ width_of v) block.zeros fits', c, c')

join_answered : (v : ℕ) (block : Known ℕ) (key_ones key_zeros : List ℕ) (other : Known ℕ) (other_key_ones other_key_zeros : List ℕ) → 1 ≤ v → v ≤ 6
    → length key_ones ≡ 10 → length key_zeros ≡ 10 → length other_key_ones ≡ 10 → length other_key_zeros ≡ 10
    → block.ones < 2 ^ width_of v → block.zeros < 2 ^ width_of v → other.ones < 2 ^ width_of v → other.zeros < 2 ^ width_of v
    → contradicts (joined block other) ≡ false → contradicts (joined (key_given key_ones key_zeros) (key_given other_key_ones other_key_zeros)) ≡ false
    → join_answer v block key_ones key_zeros other other_key_ones other_key_zeros ≡ value (joined block other, joined (key_given key_ones key_zeros) (key_given other_key_ones other_key_zeros))
join_answered v block key_ones key_zeros other other_key_ones other_key_zeros least most a b c d e f g h i j =
    rw (
      variant_sound v least most,
      eq-eqb (length key_ones) 10 a,
      eq-eqb (length key_zeros) 10 b,
      eq-eqb (length other_key_ones) 10 c,
      eq-eqb (length other_key_zeros) 10 d,
      lt-leb (2 ^ width_of v) block.ones e,
      lt-leb (2 ^ width_of v) block.zeros f,
      lt-leb (2 ^ width_of v) other.ones g,
      lt-leb (2 ^ width_of v) other.zeros h,
      i,
      j,
    )

-- ---- 7 before 16

-- the checks before 7
module _ (v : ℕ) (block : Known ℕ) (ones zeros : List ℕ) (p : ℕ) (least : 1 ≤ v) (most : v ≤ 6) (ten : length ones ≡ 10) (ten' : length zeros ≡ 10) (early : p ≤ 254) where
  key_passes : (key_parts_check ones zeros).fault ≡ false
  key_passes = rw (eq-eqb (length ones) 10 ten, eq-eqb (length zeros) 10 ten')

  wide_first : (block_parts_check v block).fault ≡ true → smudged_answer v block ones zeros p ≡ refused 7
  wide_first h =
      fault_after (variant_check v ∷ key_parts_check ones zeros ∷ position_check p ∷ []) (block_parts_check v block) (contradiction_check (key_given ones zeros) block ∷ []) _
      (variant_sound v least most, (key_passes, (le-ltb rounds p early, tt))) h

  contradicted : (block_parts_check v block).fault ≡ false → contradicts block || contradicts (key_given ones zeros) ≡ true → smudged_answer v block ones zeros p ≡ refused 16
  contradicted f h =
      fault_after (variant_check v ∷ key_parts_check ones zeros ∷ position_check p ∷ block_parts_check v block ∷ []) (contradiction_check (key_given ones zeros) block) [] _
      (variant_sound v least most, (key_passes, (le-ltb rounds p early, (f, tt)))) h

module _ (v : ℕ) (block : Known ℕ) (ones zeros : List ℕ) (other : Known ℕ) (other_ones other_zeros : List ℕ) (least : 1 ≤ v) (most : v ≤ 6)
    (a : length ones ≡ 10) (b : length zeros ≡ 10) (c : length other_ones ≡ 10) (d : length other_zeros ≡ 10) where
  sound : (variant_check v).fault ≡ false
  sound = variant_sound v least most

  first_key : (key_parts_check ones zeros).fault ≡ false
  first_key = key_passes v block ones zeros 0 least most a b (omega arith)

  second_key : (key_parts_check other_ones other_zeros).fault ≡ false
  second_key = key_passes v block other_ones other_zeros 0 least most c d (omega arith)

  join_wide_first : (block_parts_check v block).fault || (block_parts_check v other).fault ≡ true → join_answer v block ones zeros other other_ones other_zeros ≡ refused 7
  join_wide_first h = by_first (block_parts_check v block).fault refl h
    where
      by_first : (t : Bool) → (block_parts_check v block).fault ≡ t → t || (block_parts_check v other).fault ≡ true → join_answer v block ones zeros other other_ones other_zeros ≡ refused 7
      by_first true e g = sym (first_wide v block ones zeros other other_ones other_zeros sound first_key second_key e)
      by_first false e g = sym (second_wide v block ones zeros other other_ones other_zeros sound first_key second_key e g)

  join_contradicted : (block_parts_check v block).fault ≡ false → (block_parts_check v other).fault ≡ false
      → contradicts (joined block other) || contradicts (joined (key_given ones zeros) (key_given other_ones other_zeros)) ≡ true → join_answer v block ones zeros other other_ones other_zeros ≡ refused 16
  join_contradicted f g h = sym (joint_clash v block ones zeros other other_ones other_zeros sound first_key second_key f g h)

pub smudges : Smudges
smudges =
    record {
      filled = filled;
      fillable = fillable;
      kept = kept;
      exact = exact;
      first = first;
      ones_fit = ones_fit;
      zeros_fit = zeros_fit;
      no_contradiction = no_contradiction;
      either_ones = λ k l i. bit_or k.ones l.ones i;
      either_zeros = λ k l i. bit_or k.zeros l.zeros i;
      both_ways = λ k l. ap₂ sheet (or_comm k.ones l.ones) (or_comm k.zeros l.zeros);
      with_itself = λ k. ap₂ sheet (or_self k.ones) (or_self k.zeros);
      clashes = clashes;
      fills_both = fills_both;
      fills_each = λ n x k l f. (fills_less n x k (joined k l) (keeps_join n k l) f, fills_less n x l (joined k l) (keeps_join' n k l) f);
      run_joined = λ v p key block key' block' ck cb. (
        kept v p key block (joined key key') (joined block block') ck cb (keeps_join key_length key key') (keeps_join (width_of v) block block'),
        kept v p key' block' (joined key key') (joined block block') ck cb (keeps_join' key_length key key') (keeps_join' (width_of v) block block'),
      );
      answered = answered;
      join_answered = join_answered;
      wide_first = wide_first;
      contradicted = contradicted;
      join_wide_first = join_wide_first;
      join_contradicted = join_contradicted;
    }
