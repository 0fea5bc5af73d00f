-- Where nothing is smudged, and where nothing is run: the result by its bits.
-- Assumes nothing.
use mathlib.Core.Path.{◌≡◌, refl, sym, ap, ap₂, ◌∙◌}
use mathlib.Core.Bool.{false}
use mathlib.Core.List.{List}
use Prim.Native.Nat.{ℕ, zero, suc, ◌-◌, ◌/◌, ◌%◌, ◌^◌, ◌<◌}
use native.Mathlib.Nat.{pow-succ'}
use native.Mathlib.Omega.{arith}
use lib.ListN.{get_or, take-append-drop}
use lib.Pow.{ones_sub-lt}
use Rattle.katan.specs.Bit.{bit, xor, and, tabulate}
use Rattle.katan.specs.Key.{key_length}
use Rattle.katan.specs.Machine.{registers_at}
use Rattle.katan.specs.Variant.{row_of, width_of}
use Rattle.katan.proofs.Bits.{bit_lt, bit_lowest, bit-suc, xor-bit, and-bit}
use Rattle.katan.proofs.Positions.{at_in}
use Rattle.katan.proofs.Tables.{entry}
use Rattle.katan_sheet.specs.Three.{Three, is0, xor_three, and_three, known}
use Rattle.katan_sheet.specs.Cells.{bits_at}
use Rattle.katan_sheet.specs.Sheet.{given, one_of, zero_of, bits_given, smudged_at, contradicts}
use Rattle.katan_sheet.specs.Claim.{whole}
use Rattle.katan_sheet.specs.declared.Known.{Known}
use Rattle.katan_sheet.proofs.Related.{Lists, at_related, tabulate_related, bits_related}
use Rattle.katan_sheet.proofs.Agrees.{of_three}
use Rattle.katan_sheet.proofs.Sheets.{one_given, zero-given, sheet_is, not_both}
use Rattle.katan_sheet.proofs.Plain.{plain}
use Rattle.katan_sheet.proofs.Fillings.{shown}

-- ---- every bit known

-- the bits of 2^n - 1 - x are those that x has not
bit_rest : (n x i : ℕ) → x < 2 ^ n → i < n → bit (2 ^ n - 1 - x) i ≡ 1 - bit x i
bit_rest zero x i h q = absurd (omega arith)
bit_rest (suc n) x zero h q =
    let e : (2 ^ suc n - 1 - x) % 2 ≡ 1 - x % 2 = omega (arith, pow-succ' 2 n) in
    bit_lowest (2 ^ suc n - 1 - x) ∙ e ∙ ap (λ (b : ℕ). 1 - b) (sym (bit_lowest x))
bit_rest (suc n) x (suc i) h q =
    let e : (2 ^ suc n - 1 - x) / 2 ≡ 2 ^ n - 1 - x / 2 = omega (arith, pow-succ' 2 n) in
    bit-suc (2 ^ suc n - 1 - x) i ∙ ap (λ (y : ℕ). bit y i) e ∙ bit_rest n (x / 2) i (omega (arith, pow-succ' 2 n)) (omega arith) ∙ ap (λ (b : ℕ). 1 - b) (sym (bit-suc x i))

-- a bit is known, and as what
abbrev Is : Three → ℕ → Type 0
Is u b = (u ≡ known b) × (b < 2)

xor_is : (u t : Three) (b c : ℕ) → Is u b → Is t c → Is (xor_three u t) (xor b c)
xor_is u t b c p q = (ap₂ xor_three p.0 q.0 ∙ of_three.xor_known b c p.1 q.1, xor-bit p.1 q.1)

and_is : (u t : Three) (b c : ℕ) → Is u b → Is t c → Is (and_three u t) (and b c)
and_is u t b c p q = (ap₂ and_three p.0 q.0 ∙ of_three.and_known b c p.1 q.1, and-bit p.1 q.1)

given_is : (b : ℕ) → given b (1 - b) ≡ known b
given_is zero = refl
given_is (suc b) = refl

one_known : (b : ℕ) → b < 2 → one_of (known b) ≡ b
one_known zero h = refl
one_known (suc zero) h = refl
one_known (suc (suc b)) h = absurd (omega arith)

zero_known : (b : ℕ) → zero_of (known b) ≡ 1 - b
zero_known zero = refl
zero_known (suc b) = omega arith

whole_is : (n x : ℕ) → x < 2 ^ n → Lists Is (bits_given n (whole n x)) (tabulate (bit x) 0 n)
whole_is n x h =
    tabulate_related _ (bit x) 0 n (λ i q. (ap (given (bit x i)) (bit_rest n x i h (omega arith)) ∙ given_is (bit x i), bit_lt x i))

-- THEOREM: the result is the registers, whole
pub exact : (v p k x : ℕ) → k < 2 ^ key_length → x < 2 ^ width_of v → smudged_at v (whole key_length k) (whole (width_of v) x) p ≡ whole (width_of v) (registers_at v k 0 x p)
unfolding smudged_at
exact v p k x hk hx =
    let n = width_of v in
    let r = registers_at v k 0 x p in
    let fits = at_in v k 0 x p hx in
    let bits = shown v (whole key_length k) (whole n x) p in
    let is : (i : ℕ) → i < n → get_or bits i is0 ≡ known (bit r i)
    = λ i q. (at_related (bits_related Is xor_three and_three known xor and (λ b. b) xor_is and_is (λ b h. (refl, h)) v p (whole_is key_length k hk) (whole_is n x hx)) (refl, omega arith) i).0
    ∙ ap known (plain v k x p hx i q) in
    sheet_is n bits (whole n r) fits (ones_sub-lt n r)
    (λ i q. ap one_of (is i q) ∙ one_known (bit r i) (bit_lt r i))
    (λ i q. ap zero_of (is i q) ∙ zero_known (bit r i) ∙ sym (bit_rest n r i fits q))

-- ---- no round run

-- THEOREM: the result is the block as given
pub first : (v : ℕ) (key block : Known ℕ) → block.ones < 2 ^ width_of v → block.zeros < 2 ^ width_of v → contradicts block ≡ false → smudged_at v key block 0 ≡ block
unfolding smudged_at bits_at
first v key block p q c =
    let n = width_of v in
    let is : (i : ℕ) → i < n → get_or (shown v key block 0) i is0 ≡ given (bit block.ones i) (bit block.zeros i)
    = λ i h. ap (λ (l : List Three). get_or l i is0) (take-append-drop (row_of v).len2 (bits_given n block)) ∙ entry (λ i. given (bit block.ones i) (bit block.zeros i)) n i is0 h in
    sheet_is n (shown v key block 0) block p q
    (λ i h. ap one_of (is i h) ∙ one_given _ _ (bit_lt block.ones i))
    (λ i h. ap zero_of (is i h) ∙ zero-given _ _ (bit_lt block.ones i) (bit_lt block.zeros i) (not_both block c i))
