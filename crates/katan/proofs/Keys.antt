-- The round keys: the two equations of k(i), for bits of any kind; their bits; a round's key bits by number.
-- Assumes nothing.
use mathlib.Core.Path.{◌≡◌, refl, sym, ap, ap₂, ◌∙◌}
use mathlib.Core.Bool.{Bool, true, false}
use mathlib.Core.List.{List, [], ◌∷◌, ◌++◌}
use Prim.Native.Nat.{ℕ, zero, suc, ◌+◌, ◌-◌, ◌*◌, ◌<◌, ◌≤◌}
use native.Mathlib.Nat.{add-zero, add-suc}
use native.Mathlib.Omega.{arith}
use borrow.Author.Tests.{leb-true, leb-false, le-leb, lt-leb}
use lib.Dec.{leb}
use lib.ListN.{length, get_or, length-append, get_or-append}
use lib.Seq.{get_or_at}
use Rattle.katan.specs.Bit.{bit, xor, pick, tabulate}
use Rattle.katan.specs.Counter.{counter, ir_of, rounds}
use Rattle.katan.specs.Key.{key_length, ka_number, kb_number, key_bit_number, k_rule, k_list, k_at, round_keys, key_bits, k}
use Rattle.katan.specs.Variant.{is_katan, last_katan}
use Rattle.katan.specs.Clock.{input_of}
use Rattle.katan.specs.inner.Within.{Bits}
use Rattle.katan.specs.declared.RoundInput.{RoundInput}
use Rattle.katan.proofs.Bits.{bit_lt, bit-zero, xor-bit}
use Rattle.katan.proofs.Tables.{entry, length-tabulate, ka-number, kb-number, number_below}

-- ---- the two equations

module _ {B : Type 0} (◌⊕◌ : B → B → B) (z : B) (key : List B) (h : length key ≡ key_length) where
  list : ℕ → List B
  list m = k_list ◌⊕◌ z key m

  pub length-k : (m : ℕ) → length (k_list ◌⊕◌ z key m) ≡ m + key_length
  length-k zero = h
  length-k (suc m) = length-append (k_list ◌⊕◌ z key m) _ ∙ omega (arith, length-k m)

  -- a longer list starts with the shorter one
  longer : (m i : ℕ) → i < m + key_length → (j : ℕ) → get_or (list (m + j)) i z ≡ get_or (list m) i z
  unfolding list
  longer m i q zero = ap (λ (y : ℕ). get_or (list y) i z) (add-zero m)
  longer m i q (suc j) =
      ap (λ (y : ℕ). get_or (list y) i z) (add-suc m j)
      ∙ get_or-append (list (m + j)) _ z i (omega (arith, length-k (m + j)))
      ∙ longer m i q j

  -- each list that reaches k(i) holds it
  pub k_entry : (m i : ℕ) → i < m + key_length → get_or (k_list ◌⊕◌ z key m) i z ≡ k_at ◌⊕◌ z key i
  unfolding list
  k_entry m i q = by_length (leb m i) refl
    where
      by_length : (b : Bool) → leb m i ≡ b → get_or (list m) i z ≡ get_or (list i) i z
      by_length true s =
          let e : m + (i - m) ≡ i = omega (arith, leb-true m i s) in
          sym (longer m i q (i - m)) ∙ ap (λ (y : ℕ). get_or (list y) i z) e
      by_length false s =
          let e : i + (m - i) ≡ m = omega (arith, leb-false m i s) in
          ap (λ (y : ℕ). get_or (list y) i z) (sym e) ∙ longer i i (omega arith) (m - i)

  pub k_low : (i : ℕ) → i < key_length → k_at ◌⊕◌ z key i ≡ get_or key i z
  k_low i q = sym (k_entry 0 i (omega arith))

  pub k-rule : (i : ℕ) → key_length ≤ i → k_at ◌⊕◌ z key i ≡ k_rule ◌⊕◌ (k_at ◌⊕◌ z key) i
  unfolding list
  k-rule i p =
      let m = i - 80 in
      let e : i ≡ m + key_length = omega arith in
      let l : (d : ℕ) → 13 ≤ d → get_or (list m) (i - d) z ≡ k_at ◌⊕◌ z key (i - d) = λ d g. k_entry m (i - d) (omega arith) in
      sym (k_entry (suc m) i (omega arith))
      ∙ ap (λ (y : ℕ). get_or (list (suc m)) y z) e
      ∙ get_or_at (list m) _ [] z (m + key_length) (length-k m)
      ∙ ap (k_rule ◌⊕◌ (λ j. get_or (list m) j z)) (sym e)
      ∙ ap₂ ◌⊕◌ (ap₂ ◌⊕◌ (ap₂ ◌⊕◌ (l 80 (omega arith)) (l 61 (omega arith))) (l 50 (omega arith))) (l 13 (omega arith))

-- ---- at single bits

module _ (key : ℕ) where
  key-length : length (key_bits key) ≡ key_length
  key-length = length-tabulate (bit key) 0 key_length

  -- k(i) is key bit i for i below 80
  pub k_key : (i : ℕ) → i < key_length → k key i ≡ bit key i
  unfolding k
  k_key i q = k_low xor 0 (key_bits key) key-length i q ∙ entry (bit key) key_length i 0 q

  -- then k(i - 80) xor k(i - 61) xor k(i - 50) xor k(i - 13)
  pub k_next : (i : ℕ) → key_length ≤ i → k key i ≡ k_rule xor (k key) i
  unfolding k
  k_next i p = k-rule xor 0 (key_bits key) key-length i p

-- ---- what holds of 0 and of each key bit, and is kept by xor, holds of each bit of a list of round keys

module _ (P : ℕ → Type 0) (none : P 0) (kept : (a b : ℕ) → P a → P b → P (xor a b)) where
  one_more : (xs : List ℕ) (y : ℕ) → ((j : ℕ) → P (get_or xs j 0)) → P y → (j : ℕ) → P (get_or (xs ++ (y ∷ [])) j 0)
  one_more [] y h q zero = q
  one_more [] y h q (suc j) = none
  one_more (x ∷ xs) y h q zero = h 0
  one_more (x ∷ xs) y h q (suc j) = one_more xs y (λ i. h (suc i)) q j

  k_each : (key : List ℕ) → ((j : ℕ) → P (get_or key j 0)) → (m j : ℕ) → P (get_or (k_list xor 0 key m) j 0)
  k_each key h zero j = h j
  k_each key h (suc m) j =
      let i = m + key_length in
      let b = k_each key h m in
      one_more (k_list xor 0 key m) _ b (kept _ _ (kept _ _ (kept _ _ (b (i - 80)) (b (i - 61))) (b (i - 50))) (b (i - 13))) j

  picked : (c : Bool) (xs ys : List ℕ) → ((j : ℕ) → P (get_or xs j 0)) → ((j : ℕ) → P (get_or ys j 0)) → (j : ℕ) → P (get_or (pick c xs ys) j 0)
  picked true xs ys f g j = f j
  picked false xs ys f g j = g j

  tabulated : (f : ℕ → ℕ) → ((i : ℕ) → P (f i)) → (n i j : ℕ) → P (get_or (tabulate f i n) j 0)
  tabulated f h zero i j = none
  tabulated f h (suc n) i zero = h i
  tabulated f h (suc n) i (suc j) = tabulated f h n (suc i) j

  round_keys_each : (v key : ℕ) → ((i : ℕ) → P (bit key i)) → (j : ℕ) → P (get_or (round_keys xor 0 v (key_bits key)) j 0)
  round_keys_each v key h =
      let b = tabulated (bit key) h key_length 0 in
      picked (is_katan v) (k_list xor 0 (key_bits key) (2 * rounds - key_length)) (key_bits key) (k_each (key_bits key) b (2 * rounds - key_length)) b

pub k-bit : (key i : ℕ) → k key i < 2
unfolding k
k-bit key i =
    let b : (a c : ℕ) → a < 2 → c < 2 → xor a c < 2 = λ a c p q. xor-bit p q in
    k_each (λ x. x < 2) (omega arith) b (key_bits key) (tabulated (λ x. x < 2) (omega arith) b (bit key) (bit_lt key) key_length 0) i i

-- a round's IR, ka and kb are bits
pub input_bits : (v key r : ℕ) → Bits (input_of v key r)
unfolding input_of
input_bits v key r =
    let b = round_keys_each (λ x. x < 2) (omega arith) (λ a b p q. xor-bit p q) v key (bit_lt key) in
    record { ir_bit = bit_lt (counter r) 7; ka_bit = b _; kb_bit = b _ }

-- the key 0 gives every round ka and kb 0
pub zero_keys : (v r : ℕ) → ((input_of v 0 r).ka ≡ 0) × ((input_of v 0 r).kb ≡ 0)
unfolding input_of
zero_keys v r =
    let z = round_keys_each (λ x. x ≡ 0) refl (λ a b p q. ap₂ xor p q) v 0 bit-zero in (z _, z _)

-- ---- a round's key bits as document 01 has them

-- for bits of any kind: the key bit that a round takes goes by the kind of variant, with i its number for a KATAN and j for a KTANTAN
module _ {B : Type 0} (◌⊕◌ : B → B → B) (z : B) (key : List B) (v i j : ℕ) where
  abbrev taken : Bool → B
  taken c = get_or (pick c (k_list ◌⊕◌ z key (2 * rounds - key_length)) key) (pick c i j) z

  pub katan_takes : length key ≡ key_length → v ≤ last_katan → i < 2 * rounds → taken (is_katan v) ≡ k_at ◌⊕◌ z key i
  katan_takes l h q = ap taken (le-leb v last_katan h) ∙ k_entry ◌⊕◌ z key l (2 * rounds - key_length) i (omega arith)

  pub ktantan_takes : last_katan < v → taken (is_katan v) ≡ get_or key j z
  ktantan_takes h = ap taken (lt-leb v last_katan h)

abbrev input : ℕ → ℕ → ℕ → RoundInput
input r x y = record { ir = ir_of (counter r); ka = x; kb = y }

pub katan_input : (v key r : ℕ) → v ≤ last_katan → r < rounds → input_of v key r ≡ record { ir = ir_of (counter r); ka = k key (2 * r); kb = k key (2 * r + 1) }
unfolding input_of k
katan_input v key r h q =
    let ks = key_bits key in
    let t = counter r in
    ap₂ (input r) (katan_takes xor 0 ks v (2 * r) (ka_number t) (key-length key) h (omega arith)) (katan_takes xor 0 ks v (2 * r + 1) (kb_number t) (key-length key) h (omega arith))

pub ktantan_input : (v key r : ℕ) → last_katan < v → r < rounds
    → input_of v key r ≡ record { ir = ir_of (counter r); ka = bit key (key_bit_number (2 * r)); kb = bit key (key_bit_number (2 * r + 1)) }
unfolding input_of
ktantan_input v key r h q =
    let at : (i j : ℕ) → key_bit_number i ≡ j → i < 2 * rounds → get_or (key_bits key) j 0 ≡ bit key (key_bit_number i)
    = λ i j e l. ap (λ (y : ℕ). get_or (key_bits key) y 0) (sym e) ∙ entry (bit key) key_length (key_bit_number i) 0 (number_below i l) in
    ap₂ (input r)
    (ktantan_takes xor 0 (key_bits key) v (2 * r) (ka_number (counter r)) h ∙ at (2 * r) _ (ka-number r) (omega arith))
    (ktantan_takes xor 0 (key_bits key) v (2 * r + 1) (kb_number (counter r)) h ∙ at (2 * r + 1) _ (kb-number r) (omega arith))
