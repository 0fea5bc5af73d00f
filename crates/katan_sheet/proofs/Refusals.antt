-- Checks of a join, by what the code found.
-- Assumes nothing.
use mathlib.Core.Path.{◌≡◌, sym, ap, ap₂, ◌∙◌}
use mathlib.Core.Bool.{Bool, true, false, ◌||◌}
use mathlib.Core.List.{List, [], ◌∷◌}
use Prim.Native.Nat.{ℕ, ◌^◌}
use borrow.Author.Tests.{eqb-true, not-false}
use lib.Dec.{leb}
use lib.ListN.{length}
use Rattle.katan.specs.Bit.{pick}
use Rattle.katan.specs.Checks.{Check, Outcome, value, refused, variant_check}
use Rattle.katan.specs.Sizes.{key_bytes}
use Rattle.katan.specs.Variant.{row_of}
use Rattle.katan.specs.declared.Row.{Row}
use Rattle.katan.proofs.Booleans.{neither}
use Rattle.katan.proofs.KeyNumbers.{key_read}
use Rattle.katan.proofs.Checked.{fault_after}
use Rattle.katan_sheet.specs.Sheet.{joined}
use Rattle.katan_sheet.specs.Answers.{key_given, key_in, key_known, key_parts_check, block_parts_check, contradiction_check, join_answer}
use Rattle.katan_sheet.specs.declared.Known.{Known}
use Rattle.katan.specs.declared.Key.{Key}
use Rattle.katan_sheet.proofs.Sheets.{sheet}

-- check 2 finds nothing
ten_bytes : (ones zeros : List ℕ) → (key_parts_check ones zeros).fault ≡ false → (length ones ≡ key_bytes) × (length zeros ≡ key_bytes)
ten_bytes ones zeros e =
    let n = neither _ _ e in (eqb-true (length ones) key_bytes (not-false _ n.0), eqb-true (length zeros) key_bytes (not-false _ n.1))

-- and then the key read is the key given
pub key_is : (ones zeros : List ℕ) (key : Known Key) → key ≡ key_in ones zeros → (key_parts_check ones zeros).fault ≡ false → key_known key ≡ key_given ones zeros
key_is ones zeros key e two =
    let ten = ten_bytes ones zeros two in
    ap₂ sheet
    (key_read ones key.ones ten.0 (ap (λ (k : Known Key). k.ones) e))
    (key_read zeros key.zeros ten.1 (ap (λ (k : Known Key). k.zeros) e))

-- check 7 at the variant's width, of a row that is its own
pub width_is : (v : ℕ) (row : Row) → row ≡ row_of v → (block : Known ℕ) (b : Bool) → b ≡ leb (2 ^ row.n) block.ones || leb (2 ^ row.n) block.zeros → (block_parts_check v block).fault ≡ b
width_is v row e block b h = ap (λ (r : Row). leb (2 ^ r.n) block.ones || leb (2 ^ r.n) block.zeros) (sym e) ∙ sym h

module _ (v : ℕ) (block : Known ℕ) (ones zeros : List ℕ) (other : Known ℕ) (other_ones other_zeros : List ℕ) (sound : (variant_check v).fault ≡ false) where
  abbrev answer : Outcome (Known ℕ × Known ℕ)
  answer = join_answer v block ones zeros other other_ones other_zeros

  abbrev both : Check
  both = contradiction_check (joined (key_given ones zeros) (key_given other_ones other_zeros)) (joined block other)

  abbrev keys : List Check
  keys = key_parts_check ones zeros ∷ key_parts_check other_ones other_zeros ∷ []

  module _ (ten : (key_parts_check ones zeros).fault ≡ false) where
    module _ (ten' : (key_parts_check other_ones other_zeros).fault ≡ false) where
      pub first_wide : (block_parts_check v block).fault ≡ true → refused 7 ≡ answer
      first_wide h = sym (fault_after (variant_check v ∷ keys) (block_parts_check v block) (block_parts_check v other ∷ both ∷ []) _ (sound, (ten, (ten', tt))) h)

      module _ (fits : (block_parts_check v block).fault ≡ false) where
        pub second_wide : (block_parts_check v other).fault ≡ true → refused 7 ≡ answer
        second_wide h =
            sym (fault_after (variant_check v ∷ key_parts_check ones zeros ∷ key_parts_check other_ones other_zeros ∷ block_parts_check v block ∷ []) (block_parts_check v other) (both ∷ []) _ (sound, (ten, (ten', (fits, tt)))) h)

        module _ (fits' : (block_parts_check v other).fault ≡ false) where
          pub joint_clash : both.fault ≡ true → refused 16 ≡ answer
          joint_clash h =
              sym (fault_after (variant_check v ∷ key_parts_check ones zeros ∷ key_parts_check other_ones other_zeros ∷ block_parts_check v block ∷ block_parts_check v other ∷ []) both [] _ (sound, (ten, (ten', (fits, (fits', tt))))) h)

          -- by what the code joined, and found in it
          pub last_check : (b k : Known ℕ) (found : Bool) → b ≡ joined block other → k ≡ joined (key_given ones zeros) (key_given other_ones other_zeros) → found ≡ (contradiction_check k b).fault
              → answer ≡ pick found (refused 16) (value (b, k))
          last_check b k found e f g = rw (sound, ten, ten', fits, fits', g, e, f)
