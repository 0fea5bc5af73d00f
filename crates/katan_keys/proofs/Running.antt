-- The window at each position, and its steps either way: by bits, one law over the number of rounds.
-- Assumes nothing.
use mathlib.Core.Path.{◌≡◌, refl, sym, ap, ap₂, subst, ◌∙◌}
use mathlib.Core.Bool.{Bool, true, false}
use Prim.Native.Nat.{ℕ, zero, suc, ◌+◌, ◌-◌, ◌*◌, ◌/◌, ◌%◌, ◌^◌, ◌<◌, ◌≤◌}
use native.Mathlib.Nat.{mod-lt, zero-add, mul-one, suc-mul, add-sub_of_le}
use native.Mathlib.Omega.{arith}
use borrow.Author.Tests.{leb-true, leb-false}
use lib.Dec.{leb}
use lib.Pow.{pow_pos, shr_lt}
use Rattle.katan.specs.Bit.{bit, xor}
use Rattle.katan.specs.Counter.{counter, ir_of, rounds}
use Rattle.katan.specs.Key.{key_length, k_rule, k}
use Rattle.katan.specs.Variant.{last_katan}
use Rattle.katan.specs.Clock.{input_of}
use Rattle.katan.proofs.Bits.{bit-mod, bit_below, bit_above, bit-shr, bit_xor, joined_lt, from_bits_lt, bit_from_bits, bits_equal, xor_undone}
use Rattle.katan.proofs.Keys.{k_key, k_next, k-bit, katan_input}
use Rattle.katan_keys.specs.Window.{longest_step, window_at, slid, ahead, behind, times, RunningWindow}

-- ---- the window's bits

module _ (key p : ℕ) where
  pub window_bit : (i : ℕ) → i < key_length → bit (window_at key p) i ≡ k key (2 * p + i)
  unfolding window_at
  window_bit i q = bit_from_bits (λ i. k key (2 * p + i)) key_length (λ i q. k-bit key (2 * p + i)) i q

  pub window_lt : window_at key p < 2 ^ key_length
  unfolding window_at
  window_lt = from_bits_lt (λ i. k key (2 * p + i)) key_length (λ i q. k-bit key (2 * p + i))

  -- a number with the window's bits is the window
  is_window : (w : ℕ) → w < 2 ^ key_length → ((i : ℕ) → i < key_length → bit w i ≡ k key (2 * p + i)) → w ≡ window_at key p
  is_window w h same = bits_equal key_length w (window_at key p) h window_lt (λ i q. same i q ∙ sym (window_bit i q))

pub first_window : (key : ℕ) → key < 2 ^ key_length → window_at key 0 ≡ key
first_window key h = sym (is_window key 0 key h (λ i q. sym (k_key key i q) ∙ ap (k key) (omega arith)))

-- ---- c rounds on, and c rounds back

-- bit j of an xor of four, each shifted down
four_bits : (f g h i j : ℕ) (w : ℕ) → bit (xor (xor (xor (w / 2 ^ f) (w / 2 ^ g)) (w / 2 ^ h)) (w / 2 ^ i)) j ≡ xor (xor (xor (bit w (f + j)) (bit w (g + j))) (bit w (h + j))) (bit w (i + j))
four_bits f g h i j w =
    bit_xor _ _ j
    ∙ ap₂ xor (bit_xor _ _ j ∙ ap₂ xor (bit_xor _ _ j ∙ ap₂ xor (bit-shr w f j) (bit-shr w g j)) (bit-shr w h j)) (bit-shr w i j)

-- by place: below m, or m and so many more
by_place : (P : ℕ → Type 0) (m : ℕ) → ((i : ℕ) → i < m → P i) → ((j : ℕ) → P (m + j)) → (i : ℕ) → P i
by_place P m low high i = place (leb m i) refl
  where
    place : (b : Bool) → leb m i ≡ b → P i
    place true e = subst P (add-sub_of_le (leb-true m i e)) (high (i - m))
    place false e = low i (leb-false m i e)

-- the bits of a window that slid on
module _ (c e w : ℕ) (few : 2 * c ≤ key_length) (h : w < 2 ^ key_length) where
  m : ℕ
  m = key_length - 2 * c

  rest : w / 2 ^ (2 * c) < 2 ^ m
  unfolding m
  rest =
      let parts : key_length ≡ m + 2 * c = omega arith in
      shr_lt m (2 * c) (subst (λ (x : ℕ). w < 2 ^ x) parts h)

  pub slid_lt : slid c e w < 2 ^ key_length
  unfolding slid m
  slid_lt =
      let whole : 2 * c + m ≡ key_length = omega arith in
      subst (λ (x : ℕ). e % 2 ^ (2 * c) * 2 ^ m + w / 2 ^ (2 * c) < 2 ^ x) whole (joined_lt m (e % 2 ^ (2 * c)) rest (2 * c) (mod-lt _ (pow_pos (2 * c))))

  -- by a rule of each place: those below come down, and those above enter
  pub slid_bits : (f : ℕ → ℕ) → ((i : ℕ) → 2 * c + i < key_length → bit w (2 * c + i) ≡ f i) → ((j : ℕ) → j < 2 * c → bit e j ≡ f (key_length - 2 * c + j)) → (i : ℕ) → i < key_length → bit (slid c e w) i ≡ f i
  unfolding slid m
  slid_bits f low high =
      by_place (λ i. i < key_length → bit (slid c e w) i ≡ f i) m
      (λ i q r. bit_below m (e % 2 ^ (2 * c)) rest i q ∙ bit-shr w (2 * c) i ∙ low i (omega arith))
      (λ j r. bit_above m (e % 2 ^ (2 * c)) rest j ∙ bit-mod (2 * c) e j (omega arith) ∙ high j (omega arith))

module _ (key p c : ℕ) (few : c ≤ longest_step) where
  -- the bits that enter at the top
  entering : (j : ℕ) → j < 2 * c → bit (k_rule xor (λ d. window_at key p / 2 ^ d) key_length) j ≡ k key (2 * p + key_length + j)
  entering j q =
      let w = window_at key p in
      let at : (d : ℕ) → d ≤ 67 → bit w (d + j) ≡ k key (2 * p + key_length + j - (80 - d))
      = λ d l. window_bit key p (d + j) (omega arith) ∙ ap (k key) (omega arith) in
      four_bits 0 19 30 67 j w
      ∙ ap₂ xor (ap₂ xor (ap₂ xor (at 0 (omega arith)) (at 19 (omega arith))) (at 30 (omega arith))) (at 67 (omega arith))
      ∙ sym (k_next key (2 * p + key_length + j) (omega arith))

  -- LAW: c rounds on from the window at p is the window at p + c
  pub ahead_window : ahead c (window_at key p) ≡ window_at key (p + c)
  ahead_window =
      let w = window_at key p in
      let e = k_rule xor (λ d. w / 2 ^ d) key_length in
      is_window key (p + c) (slid c e w) (slid_lt c e w (omega arith) (window_lt key p))
      (slid_bits c e w (omega arith) (window_lt key p) (λ i. k key (2 * (p + c) + i))
      (λ i q. window_bit key p (2 * c + i) q ∙ ap (k key) (omega arith))
      (λ j q. entering j q ∙ ap (k key) (omega arith)))

  -- the bits that return at the bottom
  returning : (i : ℕ) → i < 2 * c → (w : ℕ) → w ≡ window_at key (p + c)
      → bit (xor (xor (xor (w / 2 ^ (80 - 2 * c)) (w / 2 ^ (67 - 2 * c))) (w / 2 ^ (30 - 2 * c))) (w / 2 ^ (19 - 2 * c)) % 2 ^ (2 * c)) i ≡ k key (2 * p + i)
  returning i q w e =
      let at : (d : ℕ) → 19 ≤ d → d ≤ 80 → bit w (d - 2 * c + i) ≡ k key (2 * p + d + i)
      = λ d l h. ap (λ (x : ℕ). bit x (d - 2 * c + i)) e ∙ window_bit key (p + c) (d - 2 * c + i) (omega arith) ∙ ap (k key) (omega arith) in
      let far : (d : ℕ) → d ≤ 67 → k key (2 * p + 80 + i - (80 - d)) ≡ k key (2 * p + d + i) = λ d h. ap (k key) (omega arith) in
      let x = k key (2 * p + i) in
      let x19 = k key (2 * p + 19 + i) in
      let x30 = k key (2 * p + 30 + i) in
      let x67 = k key (2 * p + 67 + i) in
      let rule : k key (2 * p + 80 + i) ≡ xor (xor (xor x x19) x30) x67
      = k_next key (2 * p + 80 + i) (omega arith)
      ∙ ap₂ xor (ap₂ xor (ap₂ xor (ap (k key) (omega arith)) (far 19 (omega arith))) (far 30 (omega arith))) (far 67 (omega arith)) in
      bit-mod (2 * c) _ i q
      ∙ four_bits (80 - 2 * c) (67 - 2 * c) (30 - 2 * c) (19 - 2 * c) i w
      ∙ ap₂ xor (ap₂ xor (ap₂ xor (at 80 (omega arith) (omega arith)) (at 67 (omega arith) (omega arith))) (at 30 (omega arith) (omega arith))) (at 19 (omega arith) (omega arith))
      ∙ ap (λ (y : ℕ). xor (xor (xor y x67) x30) x19) rule
      ∙ ap (λ (y : ℕ). xor (xor y x30) x19) (xor_undone (xor (xor x x19) x30) x67)
      ∙ ap (λ (y : ℕ). xor y x19) (xor_undone (xor x x19) x30)
      ∙ xor_undone x x19

  -- LAW: c rounds back from the window at p + c is the window at p
  pub behind_window : behind c (window_at key (p + c)) ≡ window_at key p
  unfolding behind
  behind_window =
      let w = window_at key (p + c) in
      let o = xor (xor (xor (w / 2 ^ (80 - 2 * c)) (w / 2 ^ (67 - 2 * c))) (w / 2 ^ (30 - 2 * c))) (w / 2 ^ (19 - 2 * c)) % 2 ^ (2 * c) in
      let small : o < 2 ^ (2 * c) = mod-lt _ (pow_pos (2 * c)) in
      is_window key p _ (mod-lt _ (pow_pos key_length))
      (λ i r.
      bit-mod key_length _ i r
      ∙ by_place (λ i. i < key_length → bit (w * 2 ^ (2 * c) + o) i ≡ k key (2 * p + i)) (2 * c)
      (λ i q r. bit_below (2 * c) w small i q ∙ returning i q w refl)
      (λ j r. bit_above (2 * c) w small j ∙ window_bit key (p + c) j (omega arith) ∙ ap (k key) (omega arith))
      i r)

-- ---- many steps

-- n steps of c rounds
pub steps_window : (key p c n : ℕ) → c ≤ longest_step → times n (ahead c) (window_at key p) ≡ window_at key (p + n * c)
steps_window key p c zero few = ap (window_at key) (omega arith)
steps_window key p c (suc n) few =
    ap (ahead c) (steps_window key p c n few) ∙ ahead_window key (p + n * c) c few ∙ ap (window_at key) (omega (arith, suc-mul n c))

-- the key bits of KATAN's round p
first_two : (v key p : ℕ) → v ≤ last_katan → p < rounds → input_of v key p ≡ record { ir = ir_of (counter p); ka = bit (window_at key p) 0; kb = bit (window_at key p) 1 }
first_two v key p h q =
    katan_input v key p h q
    ∙ ap₂ (λ (x y : ℕ). record { ir = ir_of (counter p); ka = x; kb = y })
    (ap (k key) (omega arith) ∙ sym (window_bit key p 0 (omega arith))) (sym (window_bit key p 1 (omega arith)))

-- c rounds on of any 80 bits, which are the window of themselves as a key
singly : (c w : ℕ) → c ≤ longest_step → w < 2 ^ key_length → ahead c w ≡ times c (ahead 1) w
singly c w few h =
    let e = first_window w h in
    ap (ahead c) (sym e)
    ∙ ahead_window w 0 c few
    ∙ ap (λ (x : ℕ). window_at w (0 + x)) (sym (mul-one c))
    ∙ sym (steps_window w 0 1 c (omega arith))
    ∙ ap (times c (ahead 1)) e

-- the way to a position: n steps of c rounds and m single ones, from the key
pub way : (n m : ℕ) {c : ℕ} (key w₁ w₂ w₃ : ℕ) → key < 2 ^ key_length → w₁ ≡ key → w₂ ≡ times n (ahead c) w₁ → w₃ ≡ times m (ahead 1) w₂ → c ≤ longest_step → (p : ℕ) → n * c + m ≡ p → w₃ ≡ window_at key p
way n m {c} key w₁ w₂ w₃ h e f g few p whole =
    let start : w₁ ≡ window_at key 0 = e ∙ sym (first_window key h) in
    let far : w₂ ≡ window_at key (n * c) = f ∙ ap (times n (ahead c)) start ∙ steps_window key 0 c n few ∙ ap (window_at key) (zero-add (n * c)) in
    g ∙ ap (times m (ahead 1)) far ∙ steps_window key (n * c) 1 m (omega arith) ∙ ap (λ (x : ℕ). window_at key (n * c + x)) (mul-one m) ∙ ap (window_at key) whole

-- THEOREM: the claim
pub running_window : RunningWindow
running_window =
    record {
      its_bits = window_bit;
      no_more = window_lt;
      first = first_window;
      forth = ahead_window;
      back = behind_window;
      at_once = singly;
      taken = first_two;
    }
