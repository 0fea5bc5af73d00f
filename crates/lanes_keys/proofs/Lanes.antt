-- The key rule at words is the rule at each lane's bits, and so is a round's input.
-- Assumes nothing.
use mathlib.Core.Path.{◌≡◌, refl, sym, ap, ap₂, ◌∙◌}
use mathlib.Core.Bool.{Bool, true, false}
use mathlib.Core.List.{List, [], ◌∷◌, ◌++◌, map, map-append}
use Prim.Native.Nat.{ℕ, zero, suc, ◌+◌, ◌-◌, ◌*◌, ◌<◌}
use native.Mathlib.Omega.{arith}
use borrow.Author.Tests.{leb-true, leb-false}
use lib.ListN.{length, get_or, get_or-map}
use lib.Seq.{ext_get_or}
use Rattle.katan.specs.Bit.{bit, xor, pick}
use Rattle.katan.specs.Counter.{counter, ir_of, rounds}
use Rattle.katan.specs.Key.{key_length, k_rule, k_list, key_bits, key_bit_number, k}
use Rattle.katan.specs.Variant.{last_katan, is_katan}
use Rattle.katan.specs.Clock.{input_of}
use Rattle.katan.specs.declared.RoundInput.{RoundInput}
use Rattle.katan.proofs.Bits.{bit-zero, bit_xor}
use Rattle.katan.proofs.Keys.{katan_input, ktantan_input}
use Rattle.katan.proofs.Tables.{entry, length-tabulate, number_below}
use Rattle.lanes_keys.specs.RoundWords.{k_word, round_words}
use Rattle.lanes_keys.proofs.KeyWords.{round-word}

-- ---- a map from one kind of bits to another that keeps xor keeps the key rule

module _ {A B : Type 0} (x₁ : A → A → A) (z₁ : A) (x₂ : B → B → B) (z₂ : B) (h : A → B)
    (hx : (p q : A) → h (x₁ p q) ≡ x₂ (h p) (h q)) (hz : h z₁ ≡ z₂) where
  map_at : (ks : List A) (j : ℕ) → h (get_or ks j z₁) ≡ get_or (map h ks) j z₂
  map_at ks j = sym (get_or-map h ks j z₁) ∙ ap (λ (z : B). get_or (map h ks) j z) hz

  k-map : (key : List A) (m : ℕ) → map h (k_list x₁ z₁ key m) ≡ k_list x₂ z₂ (map h key) m
  k-map key zero = refl
  k-map key (suc m) =
      let ks = k_list x₁ z₁ key m in
      let i = m + key_length in
      let at : (j : ℕ) → h (get_or ks j z₁) ≡ get_or (k_list x₂ z₂ (map h key) m) j z₂
      = λ j. map_at ks j ∙ ap (λ (l : List B). get_or l j z₂) (k-map key m) in
      map-append h ks (k_rule x₁ (λ j. get_or ks j z₁) i ∷ [])
      ∙ ap₂ (λ (l : List B) (y : B). l ++ (y ∷ [])) (k-map key m)
      (hx _ _ ∙ ap₂ x₂ (hx _ _ ∙ ap₂ x₂ (hx _ _ ∙ ap₂ x₂ (at (i - key_length)) (at (i - 61))) (at (i - 50))) (at (i - 13)))

length_bits : (f : ℕ → ℕ) (l : List ℕ) → length (map f l) ≡ length l
length_bits f [] = refl
length_bits f (x ∷ l) = ap suc (length_bits f l)

-- ---- the bits of lane j

module _ (j key : ℕ) (words : List ℕ) (len : length words ≡ key_length) (h : (i : ℕ) → i < key_length → bit (get_or words i 0) j ≡ bit key i) where
  key_lane : map (λ x. bit x j) words ≡ key_bits key
  key_lane =
      ext_get_or 0 (map (λ x. bit x j) words) (key_bits key)
      (length_bits (λ x. bit x j) words ∙ len ∙ sym (length-tabulate (bit key) 0 key_length))
      (λ n l.
      let l' : n < key_length = omega (arith, length_bits (λ x. bit x j) words, len) in
      sym (map_at xor 0 xor 0 (λ x. bit x j) (λ a b. bit_xor a b j) (bit-zero j) words n) ∙ h n l' ∙ sym (entry (bit key) key_length n 0 l'))

  k_lane : (i : ℕ) → bit (k_word words i) j ≡ k key i
  unfolding k_word k
  k_lane i =
      map_at xor 0 xor 0 (λ x. bit x j) (λ a b. bit_xor a b j) (bit-zero j) (k_list xor 0 words i) i
      ∙ ap (λ (l : List ℕ). get_or l i 0)
      (k-map xor 0 xor 0 (λ x. bit x j) (λ a b. bit_xor a b j) (bit-zero j) words i ∙ ap (λ (l : List ℕ). k_list xor 0 l i) key_lane)

  -- word i of the rounds, by the kind of variant
  round_lane : (v i : ℕ) → i < 2 * rounds → (b : Bool) → is_katan v ≡ b → bit (get_or (round_words v words) i 0) j ≡ pick b (k key i) (bit key (key_bit_number i))
  round_lane v i q true e =
      ap (λ (x : ℕ). bit x j) (round-word v words i q ∙ ap (λ (c : Bool). pick c (k_word words i) (get_or words (key_bit_number i) 0)) e) ∙ k_lane i
  round_lane v i q false e =
      ap (λ (x : ℕ). bit x j) (round-word v words i q ∙ ap (λ (c : Bool). pick c (k_word words i) (get_or words (key_bit_number i) 0)) e) ∙ h (key_bit_number i) (number_below i q)

  abbrev input : ℕ → ℕ → ℕ → RoundInput
  input r x y = record { ir = ir_of (counter r); ka = x; kb = y }

  -- THEOREM: lane j of a round's words is the round's input for lane j's key
  pub lane-input : (v r : ℕ) → r < rounds
      → record { ir = ir_of (counter r); ka = bit (get_or (round_words v words) (2 * r) 0) j; kb = bit (get_or (round_words v words) (2 * r + 1) 0) j } ≡ input_of v key r
  lane-input v r q = by_kind (is_katan v) refl
    where
      by_kind : (b : Bool) → is_katan v ≡ b → input r (bit (get_or (round_words v words) (2 * r) 0) j) (bit (get_or (round_words v words) (2 * r + 1) 0) j) ≡ input_of v key r
      by_kind true e =
          ap₂ (input r) (round_lane v (2 * r) (omega arith) true e) (round_lane v (2 * r + 1) (omega arith) true e) ∙ sym (katan_input v key r (leb-true v last_katan e) q)
      by_kind false e =
          ap₂ (input r) (round_lane v (2 * r) (omega arith) false e) (round_lane v (2 * r + 1) (omega arith) false e) ∙ sym (ktantan_input v key r (leb-false v last_katan e) q)
