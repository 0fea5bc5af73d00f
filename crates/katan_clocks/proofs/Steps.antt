-- What the functions make of a row's formulas and ask of a row; three steps back as one.
-- Assumes nothing.
use mathlib.Core.Path.{◌≡◌, refl, sym, ap, ap₂, subst, ◌∙◌}
use mathlib.Core.Logic.{⊎_elim}
use Prim.Native.Nat.{ℕ, ◌+◌, ◌/◌, ◌^◌, ◌≤◌}
use native.Mathlib.Omega.{arith}
use Rattle.katan.specs.Bit.{xor, and}
use Rattle.katan.specs.Clock.{fa, fb, fa_rest, fb_rest, round, unround}
use Rattle.katan.specs.Variant.{row32, row48, row64}
use Rattle.katan.specs.Stride.{stride_clocks}
use Rattle.katan.specs.inner.Within.{Sound}
use Rattle.katan.specs.declared.Row.{Row}
use Rattle.katan.specs.declared.Registers.{Registers}
use Rattle.katan.specs.declared.RoundInput.{RoundInput}
use Rattle.katan.proofs.Undo.{sound}
use Rattle.katan_variants.specs.Widths.{IsRow}
use Rattle.katan_clocks.specs.Clocks.{lowest, clocks_by, unclocks_by}
use Rattle.katan_clocks.specs.inner.Words.{tap, enter, at_once, restore, undone_at_once, without, in_each}
use Rattle.katan_clocks.proofs.AtOnce.{undone_in_two}
use Rattle.katan_clocks.proofs.Rounds.{one_by_words, un_one_by_words}

-- the words as the code makes them, the formulas first
module _ (v : Row) (c : ℕ) (w : RoundInput) (s : Registers) {a b x y : ℕ} where
  pub gone : a ≡ fa xor and v (tap c s.l1) w.ir w.ka → b ≡ fb xor and v (tap c s.l2) w.kb
      → x ≡ enter v.len1 c s.l1 b → y ≡ enter v.len2 c s.l2 a → record { l1 = x; l2 = y } ≡ at_once v c w s
  unfolding at_once
  gone e f g h = cc

  pub gone_back : a ≡ fa_rest xor and v (λ i. s.l1 / 2 ^ (i + 1)) w.ir w.ka → b ≡ fb_rest xor and v (λ i. s.l2 / 2 ^ (i + 1)) w.kb
      → x ≡ restore v.len1 c s.l1 (xor s.l2 a) → y ≡ restore v.len2 c s.l2 (xor s.l1 b) → record { l1 = x; l2 = y } ≡ undone_at_once v c w s
  unfolding undone_at_once
  gone_back e f g h = cc

-- what holds of each of the three rows holds of a row of the table
pub by_row : (P : Row → Type 0) → P row32 → P row48 → P row64 → (v : Row) → IsRow v → P v
by_row P a b c v k = ⊎_elim (λ e. subst P (sym e) a) (λ h. ⊎_elim (λ e. subst P (sym e) b) (λ e. subst P (sym e) c) h) k

pub sound_row : (v : Row) → IsRow v → Sound v
sound_row = by_row Sound (sound 1) (sound 2) (sound 3)

-- a stride's clocks can go at once, and so can a round's
pub stride_goes : (v : Row) → IsRow v → (1 ≤ stride_clocks v) × (stride_clocks v ≤ v.x5 + 1)
stride_goes = by_row (λ v. (1 ≤ stride_clocks v) × (stride_clocks v ≤ v.x5 + 1)) (omega arith, omega arith) (omega arith, omega arith) (omega arith, omega arith)

pub round_goes : (v : Row) → IsRow v → v.clocks ≤ v.x5 + 1
round_goes = by_row (λ v. v.clocks ≤ v.x5 + 1) (omega arith) (omega arith) (omega arith)

abbrev Near : Row → ℕ → Type 0
Near v n = (n + v.x3 ≤ v.x1) × (n + v.y3 ≤ v.y1)

three_rounds : (v : Row) → IsRow v → (Near v (stride_clocks v) → ⊥) → v.clocks + (v.clocks + v.clocks) ≡ stride_clocks v
three_rounds =
    by_row (λ v. (Near v (stride_clocks v) → ⊥) → v.clocks + (v.clocks + v.clocks) ≡ stride_clocks v)
    (λ no. absurd (no (omega arith, omega arith)))
    (λ no. refl)
    (λ no. refl)

-- a stride of n clocks on a row r that is v, where they cannot be undone at once, is three rounds
pub in_rounds : (v : Row) → IsRow v → (r : Row) (n : ℕ) → r ≡ v → n ≡ stride_clocks v → (Near r n → ⊥) → v.clocks + (v.clocks + v.clocks) ≡ stride_clocks v
in_rounds v k r n e d never = three_rounds v k (λ h. never (subst (λ (m : ℕ). Near r m) (sym d) (subst (λ (x : Row). Near x (stride_clocks v)) (sym e) h)))

-- three steps back of c clocks each
pub undone_in_three : (v r : Row) (e : r ≡ v) (c : ℕ) (w w₁ w₂ : RoundInput) (s a b d : Registers)
    → w₁ ≡ without c w → w₂ ≡ without c w₁ → a ≡ unclocks_by r c w s → b ≡ unclocks_by r c w₁ a → d ≡ unclocks_by r c w₂ b
    → d ≡ unclocks_by v (c + (c + c)) w s
undone_in_three v r e c w w₁ w₂ s a b d i j f g h =
    h
    ∙ ap₂ (unclocks_by r c) j g
    ∙ sym (undone_in_two r c c w₁ a)
    ∙ ap₂ (unclocks_by r (c + c)) i f
    ∙ sym (undone_in_two r c (c + c) w s)
    ∙ ap (λ (x : Row). unclocks_by x (c + (c + c)) w s) e

-- a round: c clocks on a row r that is v
module _ (v r : Row) (e : r ≡ v) (c : ℕ) (d : c ≡ v.clocks) (u w : RoundInput) (f : w ≡ in_each c u) (s t : Registers) where
  pub one_round : t ≡ clocks_by r c w s → t ≡ round v (lowest u) s
  one_round h =
      h
      ∙ ap₂ (λ (x : Row) (y : RoundInput). clocks_by x c y s) e f
      ∙ ap (λ (n : ℕ). clocks_by v n (in_each n u) s) d
      ∙ one_by_words v u s

  pub one_unround : t ≡ unclocks_by r c w s → t ≡ unround v (lowest u) s
  one_unround h =
      h
      ∙ ap₂ (λ (x : Row) (y : RoundInput). unclocks_by x c y s) e f
      ∙ ap (λ (n : ℕ). unclocks_by v n (in_each n u) s) d
      ∙ un_one_by_words v u s
