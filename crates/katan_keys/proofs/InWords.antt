-- The two steps in words: what the code makes of the two words is the step of their number.
-- Assumes nothing.
use mathlib.Core.Path.{◌≡◌, sym, ap, ap₂, subst, ◌∙◌}
use Prim.Native.Nat.{ℕ, ◌+◌, ◌-◌, ◌*◌, ◌/◌, ◌%◌, ◌^◌, ◌<◌, ◌≤◌}
use native.Mathlib.Nat.{add_assoc, add-mul, mul_assoc, div-one, mod-lt, lt_of_lt_of_le, lt_of_le_of_lt}
use native.Mathlib.Omega.{arith}
use lib.Bits.{bit_or, or_lt, or_shifted}
use lib.Pow.{pow_pos, pow-add, pow_mono, shl_exact, shl_lt, shr_lt, shr_le, mod-pow-add, mod-mod-pow, high, low}
use Rattle.katan.specs.Bit.{xor}
use Rattle.katan.specs.Key.{key_length}
use Rattle.katan.proofs.Bits.{one_shifted, raised, lifted, joined_lt}
use Rattle.katan_keys.specs.Window.{longest_step, slid, ahead, behind}
use Rattle.katan_keys.proofs.Words.{low_same, stood_lower, from_low, from_high, shifted_down, shifted_up}

-- any bits that enter at the top leave the high word a word
module _ (h c e : ℕ) (few : c ≤ longest_step) where
  -- a shift as the code has it
  entered : ((e % ((1 * 2 ^ (2 * c)) % 2 ^ 64)) * 2 ^ (16 - 2 * c)) % 2 ^ 64 ≡ (e % 2 ^ (2 * c)) * 2 ^ (16 - 2 * c)
  entered =
      ap (λ (n : ℕ). ((e % n) * 2 ^ (16 - 2 * c)) % 2 ^ 64) (one_shifted (2 * c) (omega arith))
      ∙ shl_exact {a = e % 2 ^ (2 * c)} (2 * c) (16 - 2 * c) 64 (mod-lt e (pow_pos (2 * c))) (omega arith)

  pub high_fits : 1 ≤ c → h < 2 ^ 64 → h / 2 ^ (2 * c) + ((e % ((1 * 2 ^ (2 * c)) % 2 ^ 64)) * 2 ^ (16 - 2 * c)) % 2 ^ 64 < 2 ^ 64
  high_fits some r =
      let s = 2 * c in
      let rest : ℕ = 64 - s in
      let parts : 64 ≡ rest + s = omega arith in
      let place : s + (16 - s) ≡ 16 = omega arith in
      let above : h / 2 ^ s < 2 ^ 62 = lt_of_lt_of_le (shr_lt rest s (rw (← parts) r)) (pow_mono {i = rest} {j = 62} (omega arith)) in
      let new : (e % 2 ^ s) * 2 ^ (16 - s) < 2 ^ 16
      = subst (λ (n : ℕ). (e % 2 ^ s) * 2 ^ (16 - s) < 2 ^ n) place (shl_lt {a = e % 2 ^ s} s (16 - s) (mod-lt e (pow_pos s))) in
      omega (arith, entered, above, new)

module _ (h l c : ℕ) (q : l < 2 ^ 64) (few : c ≤ longest_step) where
  pub slid_words : (e : ℕ) → (h / 2 ^ (2 * c) + ((e % ((1 * 2 ^ (2 * c)) % 2 ^ 64)) * 2 ^ (16 - 2 * c)) % 2 ^ 64) * 2 ^ 64 + bit_or ((h * 2 ^ (64 - 2 * c)) % 2 ^ 64) (l / 2 ^ (2 * c)) ≡ slid c e (h * 2 ^ 64 + l)
  unfolding slid
  slid_words e =
      let s = 2 * c in
      let f : ℕ = e % 2 ^ s in
      let parts : 64 ≡ (64 - s) + s = omega arith in
      let small : l / 2 ^ s < 2 ^ (64 - s) = shr_lt (64 - s) s (rw (← parts) q) in
      let joined : bit_or ((h * 2 ^ (64 - s)) % 2 ^ 64) (l / 2 ^ s) ≡ (h % 2 ^ s) * 2 ^ (64 - s) + l / 2 ^ s
      = ap (λ (y : ℕ). bit_or y (l / 2 ^ s)) (lifted h s (64 - s) (omega arith)) ∙ or_shifted (h % 2 ^ s) (64 - s) (l / 2 ^ s) small in
      let place : (16 - s) + 64 ≡ key_length - s = omega arith in
      let top : f * 2 ^ (16 - s) * 2 ^ 64 ≡ f * 2 ^ (key_length - s)
      = mul_assoc f (2 ^ (16 - s)) (2 ^ 64) ∙ ap (f *◌) (sym (pow-add 2 (16 - s) 64) ∙ ap (λ (n : ℕ). 2 ^ n) place) in
      ap (λ (y : ℕ). (h / 2 ^ s + y) * 2 ^ 64 + bit_or ((h * 2 ^ (64 - s)) % 2 ^ 64) (l / 2 ^ s)) (entered h c e few)
      ∙ omega (arith, add-mul (h / 2 ^ s) (f * 2 ^ (16 - s)) (2 ^ 64), joined, top, shifted_down h q s (omega arith))

  -- the rule's bits come from the low word, and the nearest from the high word
  pub ahead_words : slid c (xor (xor (xor l (l / 2 ^ 19)) (l / 2 ^ 30)) (h / 2 ^ 3)) (h * 2 ^ 64 + l) ≡ ahead c (h * 2 ^ 64 + l)
  unfolding slid
  ahead_words =
      let s = 2 * c in
      let x = h * 2 ^ 64 + l in
      ap (λ (y : ℕ). y * 2 ^ (key_length - s) + x / 2 ^ s)
      (sym
      (low_same s (x / 2 ^ 0) (x / 2 ^ 19) (x / 2 ^ 30) (x / 2 ^ 67) l (l / 2 ^ 19) (l / 2 ^ 30) (h / 2 ^ 3)
      (from_low h q 0 s (omega arith) ∙ ap (λ (y : ℕ). y % 2 ^ s) (div-one l))
      (from_low h q 19 s (omega arith))
      (from_low h q 30 s (omega arith))
      (ap (λ (y : ℕ). y % 2 ^ s) (from_high h q 3))))

-- c rounds back: the two words after the shift as the code has it, and the bits that return
module _ (h l c : ℕ) (q : l < 2 ^ 64) (few : c ≤ longest_step) where
  abbrev s : ℕ
  s = 2 * c

  abbrev m : ℕ
  m = 64 - s

  abbrev low' : ℕ
  low' = (l * 2 ^ s) % 2 ^ 64

  abbrev high' : ℕ
  high' = bit_or ((h * 2 ^ s) % 2 ^ 64) (l / 2 ^ m)

  abbrev rule : ℕ
  rule = xor (xor (xor (high' / 2 ^ 16) (high' / 2 ^ 3)) (low' / 2 ^ 30)) (low' / 2 ^ 19)

  abbrev x : ℕ
  x = h * 2 ^ 64 + l

  parts : m + s ≡ 64
  parts = omega arith

  low_is : low' ≡ (l % 2 ^ m) * 2 ^ s
  low_is = lifted l m s parts

  low_lt : low' < 2 ^ 64
  low_lt = mod-lt (l * 2 ^ s) (pow_pos 64)

  high_is : high' ≡ (h % 2 ^ m) * 2 ^ s + l / 2 ^ m
  high_is =
      let whole : 64 ≡ s + m = omega arith in
      ap (λ (y : ℕ). bit_or y (l / 2 ^ m)) (lifted h m s parts) ∙ or_shifted (h % 2 ^ m) s (l / 2 ^ m) (shr_lt s m (rw (← whole) q))

  high_lt : high' < 2 ^ 64
  high_lt = or_lt 64 ((h * 2 ^ s) % 2 ^ 64) (l / 2 ^ m) (mod-lt (h * 2 ^ s) (pow_pos 64)) (lt_of_le_of_lt (shr_le l m) q)

  -- the high word, with what left it
  abbrev up : ℕ
  up = h / 2 ^ m * 2 ^ 64 + high'

  moved_up : x * 2 ^ s ≡ up * 2 ^ 64 + low'
  moved_up =
      let whole : h * 2 ^ s + l / 2 ^ m ≡ up = omega (arith, raised h m s parts, high_is) in
      shifted_up h q s m parts ∙ ap₂ (λ (y z : ℕ). y * 2 ^ 64 + z) whole (sym low_is)

  -- the rule's bits come from the two words
  rule_back : xor (xor (xor (x / 2 ^ (80 - s)) (x / 2 ^ (67 - s))) (x / 2 ^ (30 - s))) (x / 2 ^ (19 - s)) % 2 ^ s ≡ rule % 2 ^ s
  rule_back =
      let at : (j : ℕ) → s ≤ j → x / 2 ^ (j - s) ≡ (up * 2 ^ 64 + low') / 2 ^ j = λ j r. stood_lower x s j r ∙ ap (λ (y : ℕ). y / 2 ^ j) moved_up in
      let above : (i : ℕ) → s ≤ 64 + i → i + s ≤ 64 → x / 2 ^ (64 + i - s) % 2 ^ s ≡ high' / 2 ^ i % 2 ^ s
      = λ i r t. ap (λ (y : ℕ). y % 2 ^ s) (at (64 + i) r ∙ from_high up low_lt i) ∙ from_low (h / 2 ^ m) high_lt i s t in
      let below : (j : ℕ) → s ≤ j → j + s ≤ 64 → x / 2 ^ (j - s) % 2 ^ s ≡ low' / 2 ^ j % 2 ^ s
      = λ j r t. ap (λ (y : ℕ). y % 2 ^ s) (at j r) ∙ from_low up low_lt j s t in
      low_same s (x / 2 ^ (80 - s)) (x / 2 ^ (67 - s)) (x / 2 ^ (30 - s)) (x / 2 ^ (19 - s)) (high' / 2 ^ 16) (high' / 2 ^ 3) (low' / 2 ^ 30) (low' / 2 ^ 19)
      (above 16 (omega arith) (omega arith))
      (above 3 (omega arith) (omega arith))
      (below 30 (omega arith) (omega arith))
      (below 19 (omega arith) (omega arith))

  -- s bits come in below: the low word stays a word, and the high word is cut
  module _ (o : ℕ) (small : o < 2 ^ s) where
    joined : bit_or low' o ≡ low' + o
    joined = ap (λ (y : ℕ). bit_or y o) low_is ∙ or_shifted (l % 2 ^ m) s o small ∙ ap (◌+ o) (sym low_is)

    joined_fits : low' + o < 2 ^ 64
    joined_fits = rw low_is (subst (λ (n : ℕ). (l % 2 ^ m) * 2 ^ s + o < 2 ^ n) parts (joined_lt s (l % 2 ^ m) small m (mod-lt l (pow_pos m))))

    parted : (x * 2 ^ s + o) % 2 ^ key_length ≡ high' % 2 ^ 16 * 2 ^ 64 + bit_or low' o
    parted =
        let cut : up % 2 ^ 16 ≡ high' % 2 ^ 16 = sym (mod-mod-pow up 48 16) ∙ ap (λ (y : ℕ). y % 2 ^ 16) (low (h / 2 ^ m) 64 high_lt) in
        ap (λ (y : ℕ). y % 2 ^ key_length) (ap (◌+ o) moved_up ∙ add_assoc (up * 2 ^ 64) low' o)
        ∙ mod-pow-add (up * 2 ^ 64 + (low' + o)) 16 64
        ∙ ap₂ (λ (y z : ℕ). y % 2 ^ 16 * 2 ^ 64 + z) (high up 64 joined_fits) (low up 64 joined_fits)
        ∙ ap₂ (λ (y z : ℕ). y * 2 ^ 64 + z) cut (sym joined)

  pub behind_words : high' % 2 ^ 16 * 2 ^ 64 + bit_or low' (rule % ((1 * 2 ^ s) % 2 ^ 64)) ≡ behind c x
  unfolding behind
  behind_words =
      ap (λ (n : ℕ). high' % 2 ^ 16 * 2 ^ 64 + bit_or low' (rule % n)) (one_shifted s (omega arith))
      ∙ sym (parted (rule % 2 ^ s) (mod-lt rule (pow_pos s)))
      ∙ ap (λ (y : ℕ). (x * 2 ^ s + y) % 2 ^ key_length) (sym rule_back)
