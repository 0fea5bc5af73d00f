-- Sheets by their bits: how a bit is given and shown, what two numbers that do not contradict are, joins.
-- Assumes nothing.
use mathlib.Core.Path.{◌≡◌, refl, sym, ap, ap₂, subst, ◌∙◌}
use mathlib.Core.Bool.{false, not}
use mathlib.Core.List.{List}
use Prim.Native.Nat.{ℕ, zero, suc, ◌^◌, ◌<◌}
use native.Mathlib.Omega.{arith}
use borrow.Author.Tests.{eqb-true, not-false, eq-eqb}
use lib.Bits.{and_lt, or_comm}
use lib.ListN.{get_or}
use lib.Pow.{pow_pos}
use Rattle.katan.specs.Bit.{bit, and, or}
use Rattle.katan.proofs.Bits.{bit_lt, bit-zero, bit_and, bit_or, bits_equal, from_bits_lt, bit_from_bits}
use Rattle.katan_sheet.specs.Three.{Three, is0, is1, unknown}
use Rattle.katan_sheet.specs.Sheet.{given, one_of, zero_of, sheet_of, joined, contradicts}
use Rattle.katan_sheet.specs.Claim.{Fills, Keeps}
use Rattle.katan_sheet.specs.declared.Known.{Known}

-- ---- one bit

pub one_lt : (u : Three) → one_of u < 2
one_lt is0 = omega arith
one_lt is1 = omega arith
one_lt unknown = omega arith

pub zero_lt : (u : Three) → zero_of u < 2
zero_lt is0 = omega arith
zero_lt is1 = omega arith
zero_lt unknown = omega arith

never_both : (u : Three) → and (one_of u) (zero_of u) ≡ 0
never_both is0 = refl
never_both is1 = refl
never_both unknown = refl

-- a bit is shown as it was given
pub one_given : (o z : ℕ) → o < 2 → one_of (given o z) ≡ o
one_given zero zero p = refl
one_given zero (suc z) p = refl
one_given (suc zero) z p = refl
one_given (suc (suc o)) z p = absurd (omega arith)

pub zero-given : (o z : ℕ) → o < 2 → z < 2 → and o z ≡ 0 → zero_of (given o z) ≡ z
zero-given zero zero p q e = refl
zero-given zero (suc zero) p q e = refl
zero-given zero (suc (suc z)) p q e = absurd (omega arith)
zero-given (suc zero) zero p q e = refl
zero-given (suc zero) (suc zero) p q e = absurd (omega arith)
zero-given (suc zero) (suc (suc z)) p q e = absurd (omega arith)
zero-given (suc (suc o)) z p q e = absurd (omega arith)

-- ---- a sheet of bits

abbrev pub sheet : ℕ → ℕ → Known ℕ
sheet o z = record { ones = o; zeros = z }

module _ (n : ℕ) (bits : List Three) where
  pub ones_in : (sheet_of n bits).ones < 2 ^ n
  ones_in = from_bits_lt (λ i. one_of (get_or bits i is0)) n (λ i q. one_lt (get_or bits i is0))

  pub zeros_in : (sheet_of n bits).zeros < 2 ^ n
  zeros_in = from_bits_lt (λ i. zero_of (get_or bits i is0)) n (λ i q. zero_lt (get_or bits i is0))

  module _ (i : ℕ) (q : i < n) where
    pub bit_ones : bit (sheet_of n bits).ones i ≡ one_of (get_or bits i is0)
    bit_ones = bit_from_bits (λ i. one_of (get_or bits i is0)) n (λ i q. one_lt (get_or bits i is0)) i q

    pub bit_zeros : bit (sheet_of n bits).zeros i ≡ zero_of (get_or bits i is0)
    bit_zeros = bit_from_bits (λ i. zero_of (get_or bits i is0)) n (λ i q. zero_lt (get_or bits i is0)) i q

  -- THEOREM: it contradicts nowhere
  pub consistent : contradicts (sheet_of n bits) ≡ false
  consistent =
      let s = sheet_of n bits in
      let none : and s.ones s.zeros ≡ 0
      = bits_equal n (and s.ones s.zeros) 0 (and_lt n s.ones s.zeros ones_in zeros_in) (pow_pos n)
      (λ i q. bit_and s.ones s.zeros i ∙ ap₂ and (bit_ones i q) (bit_zeros i q) ∙ never_both (get_or bits i is0) ∙ sym (bit-zero i)) in
      ap not (eq-eqb _ 0 none)

  -- it is the one sheet with its bits
  pub sheet_is : (k : Known ℕ) → k.ones < 2 ^ n → k.zeros < 2 ^ n → ((i : ℕ) → i < n → one_of (get_or bits i is0) ≡ bit k.ones i)
      → ((i : ℕ) → i < n → zero_of (get_or bits i is0) ≡ bit k.zeros i) → sheet_of n bits ≡ k
  sheet_is k p q f g =
      ap₂ sheet
      (bits_equal n (sheet_of n bits).ones k.ones ones_in p (λ i h. bit_ones i h ∙ f i h))
      (bits_equal n (sheet_of n bits).zeros k.zeros zeros_in q (λ i h. bit_zeros i h ∙ g i h))

-- no bit is known both ways
pub not_both : (k : Known ℕ) → contradicts k ≡ false → (i : ℕ) → and (bit k.ones i) (bit k.zeros i) ≡ 0
not_both k e i =
    sym (bit_and k.ones k.zeros i) ∙ ap (λ (y : ℕ). bit y i) (eqb-true _ 0 (not-false _ e)) ∙ bit-zero i

-- so there is a filling: every unknown bit 0
no_one : (o z : ℕ) → o < 2 → and o z ≡ 0 → z ≡ 1 → o ≡ 0
no_one zero z p e f = omega arith
no_one (suc zero) z p e f = let g : and 1 1 ≡ 0 = ap (and 1) (sym f) ∙ e in absurd (omega arith)
no_one (suc (suc o)) z p e f = absurd (omega arith)

pub fillable : (n : ℕ) (k : Known ℕ) → k.ones < 2 ^ n → contradicts k ≡ false → Fills n k k.ones
fillable n k h c =
    record { in_width = h; has_ones = λ i q e. e; has_zeros = λ i q e. no_one (bit k.ones i) (bit k.zeros i) (bit_lt k.ones i) (not_both k c i) e }

-- ---- joins: what either knows

-- a bit of an or is 1 exactly where one of the two bits is
or_left : (a b : ℕ) → b < 2 → a ≡ 1 → or a b ≡ 1
or_left a zero p e = rw e
or_left a (suc zero) p e = rw e
or_left a (suc (suc b)) p e = absurd (omega arith)

or_cases : (P : Type 0) (a b : ℕ) → a < 2 → (a ≡ 1 → P) → (b ≡ 1 → P) → or a b ≡ 1 → P
or_cases P zero b p f g e = g e
or_cases P (suc zero) b p f g e = f refl
or_cases P (suc (suc a)) b p f g e = absurd (omega arith)

in_join : (a b i : ℕ) → bit a i ≡ 1 → bit (or a b) i ≡ 1
in_join a b i e = bit_or a b i ∙ or_left (bit a i) (bit b i) (bit_lt b i) e

pub keeps_join : (n : ℕ) (k l : Known ℕ) → Keeps n k (joined k l)
keeps_join n k l = record { ones_kept = λ i q e. in_join k.ones l.ones i e; zeros_kept = λ i q e. in_join k.zeros l.zeros i e }

pub keeps_join' : (n : ℕ) (k l : Known ℕ) → Keeps n l (joined k l)
keeps_join' n k l = subst (Keeps n l) (ap₂ sheet (or_comm l.ones k.ones) (or_comm l.zeros k.zeros)) (keeps_join n l k)

pub fills_both : (n x : ℕ) (k l : Known ℕ) → Fills n k x → Fills n l x → Fills n (joined k l) x
fills_both n x k l f g =
    record {
      in_width = f.in_width;
      has_ones = λ i q e. or_cases (bit x i ≡ 1) (bit k.ones i) (bit l.ones i) (bit_lt k.ones i) (f.has_ones i q) (g.has_ones i q) (sym (bit_or k.ones l.ones i) ∙ e);
      has_zeros = λ i q e. or_cases (bit x i ≡ 0) (bit k.zeros i) (bit l.zeros i) (bit_lt k.zeros i) (f.has_zeros i q) (g.has_zeros i q) (sym (bit_or k.zeros l.zeros i) ∙ e);
    }

-- single bits that either knows, both ways
four_ways : (a b c d : ℕ) → a < 2 → b < 2 → c < 2 → d < 2 → and (or a c) (or b d) ≡ or (or (and a b) (and c d)) (or (and a d) (and c b))
four_ways zero b zero d p q r s = refl
four_ways zero zero (suc zero) zero p q r s = refl
four_ways zero zero (suc zero) (suc zero) p q r s = refl
four_ways zero zero (suc zero) (suc (suc d)) p q r s = absurd (omega arith)
four_ways zero (suc zero) (suc zero) zero p q r s = refl
four_ways zero (suc zero) (suc zero) (suc zero) p q r s = refl
four_ways zero (suc zero) (suc zero) (suc (suc d)) p q r s = absurd (omega arith)
four_ways zero (suc (suc b)) (suc zero) d p q r s = absurd (omega arith)
four_ways zero b (suc (suc c)) d p q r s = absurd (omega arith)
four_ways (suc zero) zero zero zero p q r s = refl
four_ways (suc zero) zero zero (suc zero) p q r s = refl
four_ways (suc zero) zero zero (suc (suc d)) p q r s = absurd (omega arith)
four_ways (suc zero) (suc zero) zero zero p q r s = refl
four_ways (suc zero) (suc zero) zero (suc zero) p q r s = refl
four_ways (suc zero) (suc zero) zero (suc (suc d)) p q r s = absurd (omega arith)
four_ways (suc zero) (suc (suc b)) zero d p q r s = absurd (omega arith)
four_ways (suc zero) zero (suc zero) zero p q r s = refl
four_ways (suc zero) zero (suc zero) (suc zero) p q r s = refl
four_ways (suc zero) zero (suc zero) (suc (suc d)) p q r s = absurd (omega arith)
four_ways (suc zero) (suc zero) (suc zero) zero p q r s = refl
four_ways (suc zero) (suc zero) (suc zero) (suc zero) p q r s = refl
four_ways (suc zero) (suc zero) (suc zero) (suc (suc d)) p q r s = absurd (omega arith)
four_ways (suc zero) (suc (suc b)) (suc zero) d p q r s = absurd (omega arith)
four_ways (suc zero) b (suc (suc c)) d p q r s = absurd (omega arith)
four_ways (suc (suc a)) b c d p q r s = absurd (omega arith)

pub clashes : (k l : Known ℕ) (i : ℕ) → and (bit (joined k l).ones i) (bit (joined k l).zeros i)
    ≡ or (or (and (bit k.ones i) (bit k.zeros i)) (and (bit l.ones i) (bit l.zeros i))) (or (and (bit k.ones i) (bit l.zeros i)) (and (bit l.ones i) (bit k.zeros i)))
clashes k l i =
    ap₂ and (bit_or k.ones l.ones i) (bit_or k.zeros l.zeros i)
    ∙ four_ways (bit k.ones i) (bit k.zeros i) (bit l.ones i) (bit l.zeros i) (bit_lt k.ones i) (bit_lt k.zeros i) (bit_lt l.ones i) (bit_lt l.zeros i)

-- a filling of a sheet that knows more is one of a sheet that knows less
pub fills_less : (n x : ℕ) (k l : Known ℕ) → Keeps n k l → Fills n l x → Fills n k x
fills_less n x k l s f =
    record { in_width = f.in_width; has_ones = λ i q e. f.has_ones i q (s.ones_kept i q e); has_zeros = λ i q e. f.has_zeros i q (s.zeros_kept i q e) }
