-- Bits, numbers from their bits, and the formulas on bits: bits in, a bit out.
-- Assumes nothing.
use mathlib.Core.Path.{◌≡◌, refl, sym, ap, ap₂, subst, ◌∙◌}
use Prim.Native.Nat.{ℕ, zero, suc, ◌+◌, ◌-◌, ◌*◌, ◌/◌, ◌%◌, ◌^◌, ◌<◌, ◌≤◌}
use native.Mathlib.Nat.{mul_assoc, add-mul, mod-lt, mod-eq_of_lt, zero-div, div-one, div-eq_of_lt, div-add-mod', one-mul, add-zero, add_comm, lt_of_lt_of_le, div-lt_iff_lt-mul}
use native.Mathlib.Numerals.{add-one, one-add}
use native.Mathlib.Omega.{arith}
use borrow.Author.Count.{below_more}
use lib.Arith.{bin_ind}
use lib.Pow.{pow_pos, pow-add, pow_mono, field, mod-mod-pow, shl_exact, shr-shr, shl-shr, shl_lt, shr_lt, split, high, low}
use lib.Bits.{and_lt, xor_lt, xor_shr, xor_mod, and_shr, and_mod, and_block, or_shr, or_mod, xor_comm, xor_self, xor_zero_r}
use lib.Dec.{lit<}
use Rattle.katan.specs.Bit.{bit, xor, and, or, from_bits}
use Rattle.katan.specs.Clock.{fa, fb, fa_rest, fb_rest}
use Rattle.katan.specs.declared.Row.{Row}

-- `1 << w` is 2 ^ w
pub one_shifted : (w : ℕ) → w < 64 → (1 * 2 ^ w) % 2 ^ 64 ≡ 2 ^ w
one_shifted w h = shl_exact {a = 1} 1 w 64 (lit< tt) (omega arith) ∙ one-mul (2 ^ w)

-- a register of fewer than 64 bits leaves room for a shift
pub room : {l w : ℕ} → l < 2 ^ w → w < 64 → l < 2 ^ 63
room {l} {w} h q = lt_of_lt_of_le h (pow_mono {i = w} {j = 63} (omega arith))

-- h, shifted up by m bits: all but its low s bits leave a word
module _ (h s m : ℕ) (word : s + m ≡ 64) where
  pub raised : h * 2 ^ m ≡ h / 2 ^ s * 2 ^ 64 + (h % 2 ^ s) * 2 ^ m
  raised =
      ap (λ (y : ℕ). y * 2 ^ m) (sym (split h s))
      ∙ add-mul _ _ (2 ^ m)
      ∙ ap (λ (y : ℕ). y + (h % 2 ^ s) * 2 ^ m) (mul_assoc _ (2 ^ s) (2 ^ m) ∙ ap (h / 2 ^ s *◌) (sym (pow-add 2 s m) ∙ ap (λ (n : ℕ). 2 ^ n) word))

  pub lifted : (h * 2 ^ m) % 2 ^ 64 ≡ (h % 2 ^ s) * 2 ^ m
  lifted =
      let fits : (h % 2 ^ s) * 2 ^ m < 2 ^ 64 = subst (λ (n : ℕ). (h % 2 ^ s) * 2 ^ m < 2 ^ n) word (shl_lt s m (mod-lt h (pow_pos s))) in
      ap (λ (y : ℕ). y % 2 ^ 64) raised ∙ low (h / 2 ^ s) 64 fits

pub bit_lt : (x i : ℕ) → bit x i < 2
bit_lt x i = mod-lt (x / 2 ^ i) (lit< tt)

pub bit-zero : (i : ℕ) → bit 0 i ≡ 0
bit-zero i = ap (λ (y : ℕ). y % 2) (zero-div (2 ^ i))

pub xor-bit : {a b : ℕ} → a < 2 → b < 2 → xor a b < 2
xor-bit {a} {b} p q = xor_lt 1 a b p q

pub and-bit : {a b : ℕ} → a < 2 → b < 2 → and a b < 2
and-bit {a} {b} p q = and_lt 1 a b p q

pub xor_twice : (a b : ℕ) → a < 2 → b < 2 → xor (xor a b) b ≡ a
xor_twice zero zero p q = refl
xor_twice zero (suc zero) p q = refl
xor_twice (suc zero) zero p q = refl
xor_twice (suc zero) (suc zero) p q = refl
xor_twice zero (suc (suc b)) p q = absurd (omega arith)
xor_twice (suc zero) (suc (suc b)) p q = absurd (omega arith)
xor_twice (suc (suc a)) b p q = absurd (omega arith)

-- bits below m do not see the others
pub bit-mod : (m l i : ℕ) → i < m → bit (l % 2 ^ m) i ≡ bit l i
bit-mod m l i h =
    let j = m - i - 1 in
    let e : m ≡ (j + 1) + i = omega arith in
    ap (λ (y : ℕ). l % 2 ^ y / 2 ^ i % 2) e ∙ ap (λ (y : ℕ). y % 2) (field l (j + 1) i) ∙ mod-mod-pow (l / 2 ^ i) j 1

-- a number of m bits has no others
pub bit_past : (m x i : ℕ) → x < 2 ^ m → m ≤ i → bit x i ≡ 0
bit_past m x i h q = ap (λ (y : ℕ). y % 2) (div-eq_of_lt (lt_of_lt_of_le h (pow_mono {i = m} {j = i} q)))

-- a number h above one of m bits: its bits are theirs
module _ (m h : ℕ) {l : ℕ} (q : l < 2 ^ m) where
  pub bit_below : (i : ℕ) → i < m → bit (h * 2 ^ m + l) i ≡ bit l i
  bit_below i p = sym (bit-mod m (h * 2 ^ m + l) i p) ∙ ap (λ (y : ℕ). bit y i) (low h m q)

  pub bit_above : (i : ℕ) → bit (h * 2 ^ m + l) (m + i) ≡ bit h i
  bit_above i = ap (λ (y : ℕ). y % 2) (sym (shr-shr (h * 2 ^ m + l) m i)) ∙ ap (λ (y : ℕ). bit y i) (high h m q)

  -- with j bits above them it has j + m
  pub joined_lt : (j : ℕ) → h < 2 ^ j → h * 2 ^ m + l < 2 ^ (j + m)
  joined_lt j p =
      subst (λ (x : ℕ). h * 2 ^ m + l < x) (sym (pow-add 2 j m)) ((div-lt_iff_lt-mul (pow_pos m)).0 (subst (λ (x : ℕ). x < 2 ^ j) (sym (high h m q)) p))

  pub top_lt : h < 2 → h * 2 ^ m + l < 2 ^ (m + 1)
  top_lt p = subst (λ (x : ℕ). h * 2 ^ m + l < 2 ^ x) (add_comm 1 m) (joined_lt 1 p)

  pub bit_top : h < 2 → bit (h * 2 ^ m + l) m ≡ h
  bit_top p = ap (λ (y : ℕ). y % 2) (high h m q) ∙ mod-eq_of_lt p

-- a number from its bits has as many, and they are its bits
module _ (f : ℕ → ℕ) where
  pub from_bits_lt : (n : ℕ) → ((i : ℕ) → i < n → f i < 2) → from_bits f n < 2 ^ n
  unfolding from_bits
  from_bits_lt zero h = omega arith
  from_bits_lt (suc n) h = rw (← add-one n) (top_lt n (f n) (from_bits_lt n (λ i q. h i (omega arith))) (h n (omega arith)))

  pub bit_from_bits : (n : ℕ) → ((i : ℕ) → i < n → f i < 2) → (i : ℕ) → i < n → bit (from_bits f n) i ≡ f i
  unfolding from_bits
  bit_from_bits zero h i q = absurd (omega arith)
  bit_from_bits (suc n) h i q =
      let g : (j : ℕ) → j < n → f j < 2 = λ j p. h j (omega arith) in
      let small : from_bits f n < 2 ^ n = from_bits_lt n g in
      below_more (λ (j : ℕ). bit (from_bits f (suc n)) j ≡ f j) n
      (λ j p. bit_below n (f n) small j p ∙ bit_from_bits n g j p)
      (bit_top n (f n) small (h n (omega arith)))
      i (omega arith)

-- bit j of an xor, of an and and of an or
pub bit_xor : (a b j : ℕ) → bit (xor a b) j ≡ xor (bit a j) (bit b j)
bit_xor a b j = ap (λ (y : ℕ). y % 2) (xor_shr a b j) ∙ xor_mod (a / 2 ^ j) (b / 2 ^ j) 1

pub bit_and : (a b j : ℕ) → bit (and a b) j ≡ and (bit a j) (bit b j)
bit_and a b j = ap (λ (y : ℕ). y % 2) (and_shr a b j) ∙ and_mod (a / 2 ^ j) (b / 2 ^ j) 1

pub bit_or : (a b j : ℕ) → bit (or a b) j ≡ or (bit a j) (bit b j)
bit_or a b j = ap (λ (y : ℕ). y % 2) (or_shr a b j) ∙ or_mod (a / 2 ^ j) (b / 2 ^ j) 1

module _ (v : Row) (l : ℕ) where
  pub fa_rest_bit : {ir ka : ℕ} → ir < 2 → ka < 2 → fa_rest xor and v (bit l) ir ka < 2
  fa_rest_bit p q =
      xor-bit (xor-bit (xor-bit (bit_lt l v.x2) (and-bit (bit_lt l v.x3) (bit_lt l v.x4))) (and-bit (bit_lt l v.x5) p)) q

  pub fa_bit : {ir ka : ℕ} → ir < 2 → ka < 2 → fa xor and v (bit l) ir ka < 2
  fa_bit p q = xor-bit (bit_lt l v.x1) (fa_rest_bit p q)

  pub fb_rest_bit : {kb : ℕ} → kb < 2 → fb_rest xor and v (bit l) kb < 2
  fb_rest_bit q =
      xor-bit (xor-bit (xor-bit (bit_lt l v.y2) (and-bit (bit_lt l v.y3) (bit_lt l v.y4))) (and-bit (bit_lt l v.y5) (bit_lt l v.y6))) q

  pub fb_bit : {kb : ℕ} → kb < 2 → fb xor and v (bit l) kb < 2
  fb_bit q = xor-bit (bit_lt l v.y1) (fb_rest_bit q)

-- a map from one kind of bits to another that keeps xor and and keeps the formulas
module _ {A B : Type 0} (x₁ a₁ : A → A → A) (x₂ a₂ : B → B → B) (h : A → B)
    (hx : (p q : A) → h (x₁ p q) ≡ x₂ (h p) (h q)) (ha : (p q : A) → h (a₁ p q) ≡ a₂ (h p) (h q)) (v : Row) where
  pub fa_rest_map : (l : ℕ → A) (ir ka : A) → h (fa_rest x₁ a₁ v l ir ka) ≡ fa_rest x₂ a₂ v (λ i. h (l i)) (h ir) (h ka)
  fa_rest_map l ir ka = simp (hx, ha)

  pub fa_map : (l : ℕ → A) (ir ka : A) → h (fa x₁ a₁ v l ir ka) ≡ fa x₂ a₂ v (λ i. h (l i)) (h ir) (h ka)
  fa_map l ir ka = hx _ _ ∙ ap (x₂ (h (l v.x1))) (fa_rest_map l ir ka)

  pub fb_rest_map : (l : ℕ → A) (kb : A) → h (fb_rest x₁ a₁ v l kb) ≡ fb_rest x₂ a₂ v (λ i. h (l i)) (h kb)
  fb_rest_map l kb = simp (hx, ha)

  pub fb_map : (l : ℕ → A) (kb : A) → h (fb x₁ a₁ v l kb) ≡ fb x₂ a₂ v (λ i. h (l i)) (h kb)
  fb_map l kb = hx _ _ ∙ ap (x₂ (h (l v.y1))) (fb_rest_map l kb)

-- ---- bits of shifted numbers; numbers with the same bits are equal

pub bit-shr : (x s i : ℕ) → bit (x / 2 ^ s) i ≡ bit x (s + i)
bit-shr x s i = ap (λ (z : ℕ). z % 2) (shr-shr x s i)

pub bit-shl : (x s i : ℕ) → bit (x * 2 ^ s) (s + i) ≡ bit x i
bit-shl x s i = sym (bit-shr (x * 2 ^ s) s i) ∙ ap (λ (z : ℕ). bit z i) (shl-shr x s)

pub and-shl : (x y s : ℕ) → and x y * 2 ^ s ≡ and (x * 2 ^ s) (y * 2 ^ s)
and-shl x y s = sym (simp add-zero at (and_block s x y 0 0 (pow_pos s) (pow_pos s)))

pub bit_lowest : (x : ℕ) → bit x 0 ≡ x % 2
bit_lowest x = ap (λ (z : ℕ). z % 2) (div-one x)

pub bit-suc : (x i : ℕ) → bit x (suc i) ≡ bit (x / 2) i
bit-suc x i = ap (bit x) (sym (one-add i)) ∙ sym (bit-shr x 1 i)

-- numbers below 2 ^ w with the same bits are equal
pub bits_equal : (w x y : ℕ) → x < 2 ^ w → y < 2 ^ w → ((i : ℕ) → i < w → bit x i ≡ bit y i) → x ≡ y
bits_equal zero x y hx hy same = omega arith
bits_equal (suc w) x y hx hy same =
    let low : x % 2 ≡ y % 2 = sym (bit_lowest x) ∙ same 0 (omega arith) ∙ bit_lowest y in
    let rest : x / 2 ≡ y / 2 =
    bits_equal w (x / 2) (y / 2) (shr_lt w 1 (rw add-one hx)) (shr_lt w 1 (rw add-one hy))
    (λ i h. sym (bit-suc x i) ∙ same (suc i) (omega arith) ∙ bit-suc y i) in
    sym (div-add-mod' x 2) ∙ ap₂ (λ (q r : ℕ). q * 2 + r) rest low ∙ div-add-mod' y 2

-- ---- xor of any numbers

bit_assoc : (a b c : ℕ) → a < 2 → b < 2 → c < 2 → xor (xor a b) c ≡ xor a (xor b c)
bit_assoc zero b c p q r = refl
bit_assoc (suc zero) zero c p q r = refl
bit_assoc (suc zero) (suc zero) zero p q r = refl
bit_assoc (suc zero) (suc zero) (suc zero) p q r = refl
bit_assoc (suc zero) (suc zero) (suc (suc c)) p q r = absurd (omega arith)
bit_assoc (suc zero) (suc (suc b)) c p q r = absurd (omega arith)
bit_assoc (suc (suc a)) b c p q r = absurd (omega arith)

-- an xor by its lowest bit and the others
halves : (a b : ℕ) → xor a b ≡ xor (a / 2) (b / 2) * 2 + xor (a % 2) (b % 2)
halves a b = sym (div-add-mod' (xor a b) 2) ∙ ap₂ (λ (q r : ℕ). q * 2 + r) (xor_shr a b 1) (xor_mod a b 1)

pub xor_assoc : (x y z : ℕ) → xor (xor x y) z ≡ xor x (xor y z)
xor_assoc =
    bin_ind (λ (x : ℕ). (y z : ℕ) → xor (xor x y) z ≡ xor x (xor y z)) (λ y z. refl)
    (λ x ih y z.
    halves (xor x y) z
    ∙ ap₂ (λ (q r : ℕ). q * 2 + r)
    (ap (λ (t : ℕ). xor t (z / 2)) (xor_shr x y 1) ∙ ih (y / 2) (z / 2) ∙ ap (xor (x / 2)) (sym (xor_shr y z 1)))
    (ap (λ (t : ℕ). xor t (z % 2)) (xor_mod x y 1) ∙ bit_assoc (x % 2) (y % 2) (z % 2) (omega arith) (omega arith) (omega arith) ∙ ap (xor (x % 2)) (sym (xor_mod y z 1)))
    ∙ sym (halves x (xor y z)))

-- the same xor again undoes it
pub xor_undone : (x y : ℕ) → xor (xor x y) y ≡ x
xor_undone x y = xor_assoc x y y ∙ ap (xor x) (xor_self y) ∙ xor_zero_r x

pub xor_crossed : (a u b v : ℕ) → xor (xor a u) (xor b v) ≡ xor (xor a b) (xor u v)
xor_crossed a u b v =
    xor_assoc a u (xor b v)
    ∙ ap (λ (t : ℕ). xor a t) (sym (xor_assoc u b v) ∙ ap (λ (t : ℕ). xor t v) (xor_comm u b) ∙ xor_assoc b u v)
    ∙ sym (xor_assoc a b (xor u v))

pub xor_through : (a u b : ℕ) → xor (xor a u) (xor u b) ≡ xor a b
xor_through a u b =
    xor_assoc a u (xor u b) ∙ ap (xor a) (sym (xor_assoc u u b) ∙ ap (λ (t : ℕ). xor t b) (xor_self u))
