-- A rule at each of the first n numbers, by one test that antt computes; the entries of a tabulated list.
-- Assumes nothing.
use mathlib.Core.Path.{◌≡◌, refl, sym, ap, ap₂, subst, ◌∙◌}
use mathlib.Core.Bool.{Bool, true, false}
use mathlib.Core.List.{List, [], ◌∷◌}
use Prim.Native.Nat.{ℕ, zero, suc, ◌+◌, ◌-◌, ◌*◌, ◌/◌, ◌%◌, ◌^◌, ◌<◌, ◌≤◌}
use native.Mathlib.Nat.{add-zero, zero-add, add-suc, suc-add, le_of_suc-le-suc, not-suc-le-zero}
use native.Mathlib.Omega.{arith}
use lib.Dec.{T, eqb, ltb, ltb→lt}
use lib.ListN.{length, get_or}
use Rattle.katan.specs.Bit.{bit, xor, pick, tabulate}
use Rattle.katan.specs.Counter.{tick, counter, ir_of, rounds}
use Rattle.katan.specs.Key.{key_length, ka_number, kb_number, key_bit_number}
use Rattle.katan.proofs.Bits.{bit_lt, xor-bit, bit-mod, bit-suc}

abbrev pub both : Bool → Bool → Bool
both true b = b
both false b = false

pub both_left : (a b : Bool) → T (both a b) → T a
both_left true b t = tt
both_left false b t = t

pub both_right : (a b : Bool) → T (both a b) → T b
both_right true b t = t
both_right false b t = absurd t

-- the test passes at each of the n numbers from i on
abbrev pub every : (ℕ → Bool) → ℕ → ℕ → Bool
every f i zero = true
every f i (suc n) = both (f i) (every f (suc i) n)

every_from : (f : ℕ → Bool) (n i : ℕ) → T (every f i n) → (j : ℕ) → j < n → T (f (i + j))
every_from f zero i t j h = absurd (not-suc-le-zero h)
every_from f (suc n) i t zero h = subst (λ (m : ℕ). T (f m)) (sym (add-zero i)) (both_left (f i) (every f (suc i) n) t)
every_from f (suc n) i t (suc j) h =
    subst (λ (m : ℕ). T (f m)) (suc-add i j ∙ sym (add-suc i j))
    (every_from f n (suc i) (both_right (f i) (every f (suc i) n) t) j (le_of_suc-le-suc h))

pub each : (f : ℕ → Bool) (n : ℕ) → T (every f 0 n) → (j : ℕ) → j < n → T (f j)
each f n t j h = subst (λ (m : ℕ). T (f m)) (zero-add j) (every_from f n 0 t j h)

module _ {A : Type 0} (f : ℕ → A) where
  pub length-tabulate : (i n : ℕ) → length (tabulate f i n) ≡ n
  length-tabulate i zero = refl
  length-tabulate i (suc n) = ap suc (length-tabulate (suc i) n)

  entry_from : (n i j : ℕ) (z : A) → j < n → get_or (tabulate f i n) j z ≡ f (i + j)
  entry_from zero i j z h = absurd (not-suc-le-zero h)
  entry_from (suc n) i zero z h = ap f (sym (add-zero i))
  entry_from (suc n) i (suc j) z h = entry_from n (suc i) j z (le_of_suc-le-suc h) ∙ ap f (suc-add i j ∙ sym (add-suc i j))

  -- an entry is the rule's value
  pub entry : (n j : ℕ) (z : A) → j < n → get_or (tabulate f 0 n) j z ≡ f j
  entry n j z h = entry_from n 0 j z h ∙ ap f (zero-add j)

-- ---- the tables of the round counter and of KTANTAN's key bits

-- T of n rounds, from a round with T = t on
abbrev ticks : ℕ → ℕ → List ℕ
ticks t zero = []
ticks t (suc n) = t ∷ ticks (tick t) n

-- the bit that a tick brings in
tapped : (t : ℕ) → xor (xor (xor (bit t 7) (bit t 6)) (bit t 4)) (bit t 2) < 2
tapped t = xor-bit (xor-bit (xor-bit (bit_lt t 7) (bit_lt t 6)) (bit_lt t 4)) (bit_lt t 2)

pub counters_rule : (r n : ℕ) → ticks (counter r) n ≡ tabulate counter r n
counters_rule r zero = refl
counters_rule r (suc n) = ap (λ (xs : List ℕ). counter r ∷ xs) (counters_rule (suc r) n)

-- entries 2 r and 2 r + 1 of the table of key bit numbers are round r's
pub ka-number : (r : ℕ) → key_bit_number (2 * r) ≡ ka_number (counter r)
ka-number r =
    let e : 2 * r % 2 ≡ 0 = omega arith in
    let d : 2 * r / 2 ≡ r = omega arith in
    rw (e, d)

pub kb-number : (r : ℕ) → key_bit_number (2 * r + 1) ≡ kb_number (counter r)
kb-number r =
    let e : (2 * r + 1) % 2 ≡ 1 = omega arith in
    let d : (2 * r + 1) / 2 ≡ r = omega arith in
    rw (e, d)

-- T shifts left: IR of the rounds after r stand below that of r in its T
tick_bit : (t i : ℕ) → i < 7 → bit (tick t) (suc i) ≡ bit t i
tick_bit t i h =
    let b = xor (xor (xor (bit t 7) (bit t 6)) (bit t 4)) (bit t 2) in
    let small : b < 2 = tapped t in
    let half : (t * 2 % 256 + b) / 2 ≡ t % 2 ^ 7 = omega arith in
    bit-suc (tick t) i ∙ ap (λ (x : ℕ). bit x i) half ∙ bit-mod 7 t i h

pub ir_later : (r j : ℕ) → j ≤ 7 → bit (counter r) (7 - j) ≡ ir_of (counter (r + j))
ir_later r zero h = ap (λ (x : ℕ). ir_of (counter x)) (sym (add-zero r))
ir_later r (suc j) h =
    let place : 7 - j ≡ suc (7 - suc j) = omega arith in
    sym (tick_bit (counter r) (7 - suc j) (omega arith))
    ∙ ap (bit (counter (suc r))) (sym place)
    ∙ ir_later (suc r) j (omega arith)
    ∙ ap (λ (x : ℕ). ir_of (counter x)) (suc-add r j ∙ sym (add-suc r j))

-- the key bit numbers of n rounds, from a round with T = t on
abbrev numbers : ℕ → ℕ → List ℕ
numbers t zero = []
numbers t (suc n) = ka_number t ∷ kb_number t ∷ numbers (tick t) n

pub numbers_rule : (r n : ℕ) → numbers (counter r) n ≡ tabulate key_bit_number (2 * r) (2 * n)
numbers_rule r zero = refl
numbers_rule r (suc n) =
    let m : 2 * suc n ≡ suc (suc (2 * n)) = omega arith in
    let s : 2 * suc r ≡ suc (suc (2 * r)) = omega arith in
    let o : 2 * r + 1 ≡ suc (2 * r) = omega arith in
    ap₂ (λ (x : ℕ) (xs : List ℕ). x ∷ xs) (sym (ka-number r))
    (ap₂ (λ (x : ℕ) (xs : List ℕ). x ∷ xs) (sym (kb-number r) ∙ ap key_bit_number o)
    (numbers_rule (suc r) n ∙ ap (λ (i : ℕ). tabulate key_bit_number i (2 * n)) s))
    ∙ ap (tabulate key_bit_number (2 * r)) (sym m)

-- ---- each of the 508 key bit numbers is 0 to 79: the test is computed at each T

counter_below : (r : ℕ) → counter r < 256
counter_below zero = omega arith
counter_below (suc r) = omega (arith, tapped (counter r))

picks_below : ℕ → Bool
picks_below t = both (ltb (ka_number t) key_length) (ltb (kb_number t) key_length)

below_at : (t : ℕ) → t < 256 → (ka_number t < key_length) × (kb_number t < key_length)
unfolding picks_below
below_at t h =
    let b = each picks_below 256 tt t h in
    let x = ltb (ka_number t) key_length in
    let y = ltb (kb_number t) key_length in
    (ltb→lt (ka_number t) key_length (both_left x y b), ltb→lt (kb_number t) key_length (both_right x y b))

picked_below : (c : Bool) (x y : ℕ) → x < key_length → y < key_length → pick c x y < key_length
picked_below true x y p q = p
picked_below false x y p q = q

pub number_below : (i : ℕ) → i < 2 * rounds → key_bit_number i < key_length
number_below i h =
    let b = below_at (counter (i / 2)) (counter_below (i / 2)) in
    picked_below (eqb (i % 2) 0) (ka_number (counter (i / 2))) (kb_number (counter (i / 2))) b.0 b.1
