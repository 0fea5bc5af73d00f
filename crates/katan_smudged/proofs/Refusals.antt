-- The last check of a run, by what the code found.
-- Assumes nothing.
use mathlib.Core.Path.{◌≡◌, sym}
use mathlib.Core.Bool.{true, false}
use mathlib.Core.List.{List, [], ◌∷◌}
use Prim.Native.Nat.{ℕ, ◌≤◌}
use borrow.Author.Tests.{le-ltb}
use Rattle.katan.specs.Checks.{Check, value, refused, variant_check, position_check}
use Rattle.katan.specs.Counter.{rounds}
use Rattle.katan.proofs.Checked.{no_fault_found, fault_after}
use Rattle.katan_sheet.specs.Sheet.{smudged_at}
use Rattle.katan_sheet.specs.Answers.{key_given, key_parts_check, block_parts_check, contradiction_check, smudged_answer}
use Rattle.katan_sheet.specs.declared.Known.{Known}

module _ (v : ℕ) (block : Known ℕ) (ones zeros : List ℕ) (p : ℕ) (sound : (variant_check v).fault ≡ false) where
  abbrev two : Check
  two = key_parts_check ones zeros

  abbrev six : Check
  six = position_check p

  abbrev seven : Check
  seven = block_parts_check v block

  abbrev sixteen : Check
  sixteen = contradiction_check (key_given ones zeros) block

  module _ (ten : two.fault ≡ false) where
    module _ (early : p ≤ rounds) where
      in_time : six.fault ≡ false
      in_time = le-ltb rounds p early

      module _ (fits : seven.fault ≡ false) where
        pub clash : sixteen.fault ≡ true → refused 16 ≡ smudged_answer v block ones zeros p
        clash h = sym (fault_after (variant_check v ∷ two ∷ six ∷ seven ∷ []) sixteen [] _ (sound, (ten, (in_time, (fits, tt)))) h)

        pub ran : sixteen.fault ≡ false → value (smudged_at v (key_given ones zeros) block p) ≡ smudged_answer v block ones zeros p
        ran h = sym (no_fault_found (variant_check v ∷ two ∷ six ∷ seven ∷ sixteen ∷ []) _ (sound, (ten, (in_time, (fits, (h, tt))))))
