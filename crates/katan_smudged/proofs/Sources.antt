-- What a round finds its key bits in, in two words each way: the input of a round, and the source of the next one.
-- Assumes nothing.
use mathlib.Core.Path.{◌≡◌, refl, sym, ap, subst, ◌∙◌}
use mathlib.Core.Bool.{Bool, true, false}
use mathlib.Core.List.{List}
use Prim.Native.Nat.{ℕ, zero, suc, ◌+◌, ◌-◌, ◌*◌, ◌^◌, ◌<◌}
use native.Mathlib.Nat.{mod-eq_of_lt, add-zero}
use native.Mathlib.Omega.{arith}
use borrow.Author.Tests.{leb-true, leb-false}
use lib.ListN.{length, get_or}
use Rattle.katan.specs.Bit.{bit, pick}
use Rattle.katan.specs.Counter.{counter, ir_of, rounds}
use Rattle.katan.specs.Key.{key_length, ka_number, kb_number, key_bit_number, k_at, round_keys, ka_of, kb_of}
use Rattle.katan.specs.Variant.{is_katan, last_katan}
use Rattle.katan.proofs.Bits.{bit_lt, bit_lowest, bit_below, bit_above}
use Rattle.katan.proofs.Keys.{k-rule, katan_takes, ktantan_takes}
use Rattle.katan.proofs.Tables.{entry, ka-number, kb-number, number_below}
use Rattle.katan_keys.specs.Window.{slid, window_number}
use Rattle.katan_keys.proofs.Running.{slid_lt, slid_bits}
use Rattle.katan_sheet.specs.Three.{Three, is0, xor_three, known}
use Rattle.katan_sheet.specs.Sheet.{one_of, zero_of}
use Rattle.katan_smudged.specs.inner.Words.{following, Tables, known_words, source_bit, input_words, source_bits, following_in, next_source, Reads, Holds, source_at, Follows}
use Rattle.katan_sheet.specs.declared.Known.{Known}
use Rattle.katan_keys.specs.declared.Window.{Window}
use Rattle.katan_smudged.proofs.Places.{term_sums, plus_sums, settled_reads, from_reads}

-- ---- the input of a round

-- a bit by itself
bit_alone : (x i : ℕ) → bit (bit x i) 0 ≡ bit x i
bit_alone x i = bit_lowest (bit x i) ∙ mod-eq_of_lt (bit_lt x i)

source_reads : (w : Known Window) (f : ℕ → Three) (i : ℕ) (t : Three) → Holds key_length (source_bits w) f → i < key_length → f i ≡ t → Reads (source_bit w i) 0 t
source_reads w f i t h q e =
    let r = h.reads i q in
    record {
      one_there = bit_alone (window_number w.ones) i ∙ r.one_there ∙ ap one_of e;
      zero_there = bit_alone (window_number w.zeros) i ∙ r.zero_there ∙ ap zero_of e;
    }

known_reads : (b : ℕ) → b < 2 → Reads (known_words b) 0 (known b)
known_reads zero h = record { one_there = refl; zero_there = refl }
known_reads (suc zero) h = record { one_there = refl; zero_there = refl }
known_reads (suc (suc b)) h = absurd (omega arith)

module _ (v : ℕ) (counters numbers : List ℕ) (ts : Tables counters numbers) (key : List Three) (l : length key ≡ key_length) (r : ℕ) (q : r < rounds) (w : Known Window) (h : Holds key_length (source_bits w) (source_at v key r)) where
  counter_is : get_or counters r 0 ≡ counter r
  counter_is = ap (λ (xs : List ℕ). get_or xs r 0) ts.0 ∙ entry counter rounds r 0 q

  number_is : (i : ℕ) → i < 2 * rounds → get_or numbers i 0 ≡ key_bit_number i
  number_is i p = ap (λ (xs : List ℕ). get_or xs i 0) ts.1 ∙ entry key_bit_number (2 * rounds) i 0 p

  pub ir_reads : Reads (input_words v counters numbers r w).ir 0 (known (ir_of (counter r)))
  ir_reads = subst (λ (t : ℕ). Reads (known_words (ir_of t)) 0 (known (ir_of (counter r)))) (sym counter_is) (known_reads (ir_of (counter r)) (bit_lt (counter r) 7))

  -- KATAN's key bit at place d of the window, KTANTAN's by its number: j of the table, m by document 01's rule
  key_reads : (d j m : ℕ) → d < key_length → 2 * r + d < 2 * rounds → j ≡ m → m < key_length → (b : Bool) → is_katan v ≡ b
      → Reads (source_bit w (pick b d j)) 0 (get_or (round_keys xor_three is0 v key) (pick (is_katan v) (2 * r + d) m) is0)
  key_reads d j m p n e small true k =
      source_reads w (source_at v key r) d _ h p
      (ap (λ (c : Bool). pick c (k_at xor_three is0 key (2 * r + d)) (get_or key d is0)) k ∙ sym (katan_takes xor_three is0 key v (2 * r + d) m l (leb-true v last_katan k) n))
  key_reads d j m p n e small false k =
      source_reads w (source_at v key r) j _ h (rw e small)
      (ap (λ (c : Bool). pick c (k_at xor_three is0 key (2 * r + j)) (get_or key j is0)) k ∙ ap (λ (i : ℕ). get_or key i is0) e ∙ sym (ktantan_takes xor_three is0 key v (2 * r + d) m (leb-false v last_katan k)))

  pub ka_reads : Reads (input_words v counters numbers r w).ka 0 (ka_of is0 v (round_keys xor_three is0 v key) (counter r) r)
  ka_reads =
      subst (λ (i : ℕ). Reads (input_words v counters numbers r w).ka 0 (get_or (round_keys xor_three is0 v key) (pick (is_katan v) i (ka_number (counter r))) is0)) (add-zero (2 * r))
      (key_reads 0 _ (ka_number (counter r)) (omega arith) (omega arith) (number_is (2 * r) (omega arith) ∙ ka-number r) (rw (← ka-number r) (number_below (2 * r) (omega arith))) (is_katan v) refl)

  pub kb_reads : Reads (input_words v counters numbers r w).kb 0 (kb_of is0 v (round_keys xor_three is0 v key) (counter r) r)
  kb_reads = key_reads 1 _ (kb_number (counter r)) (omega arith) (omega arith) (number_is (2 * r + 1) (omega arith) ∙ kb-number r) (rw (← kb-number r) (number_below (2 * r + 1) (omega arith))) (is_katan v) refl

-- ---- the source of the next position

module _ (w : Known Window) (ones_low : w.ones.low < 2 ^ 64) (zeros-low : w.zeros.low < 2 ^ 64) where
  abbrev low : Known ℕ
  low = record { ones = w.ones.low; zeros = w.zeros.low }

  abbrev high : Known ℕ
  high = record { ones = w.ones.high; zeros = w.zeros.high }

  low_reads : (m : ℕ) (t : Three) → m < 64 → Reads (source_bits w) m t → Reads low m t
  low_reads m t q r =
      record {
        one_there = sym (bit_below 64 w.ones.high ones_low m q) ∙ r.one_there;
        zero_there = sym (bit_below 64 w.zeros.high zeros-low m q) ∙ r.zero_there;
      }

  high_reads : (m : ℕ) (t : Three) → Reads (source_bits w) (64 + m) t → Reads high m t
  high_reads m t r =
      record {
        one_there = sym (bit_above 64 w.ones.high ones_low m) ∙ r.one_there;
        zero_there = sym (bit_above 64 w.zeros.high zeros-low m) ∙ r.zero_there;
      }

  module _ (key : List Three) (l : length key ≡ key_length) (p : ℕ) (h : Holds key_length (source_bits w) (λ i. k_at xor_three is0 key (2 * p + i))) where
    abbrev k : ℕ → Three
    k = k_at xor_three is0 key

    -- the bits that enter follow by the rule
    follows : (j : ℕ) → j < 2 → Reads (following_in w) j (k (2 * p + key_length + j))
    unfolding following
    follows j q =
        let i = 2 * p + key_length + j in
        let at : (d m : ℕ) → m < key_length → 2 * p + m ≡ i - d → Reads (source_bits w) m (k (i - d))
        = λ d m n e. subst (λ (x : ℕ). Reads (source_bits w) m (k x)) e (h.reads m n) in
        subst (λ (t : Three). Reads (following_in w) j t) (sym (k-rule xor_three is0 key l i (omega arith)))
        (settled_reads
        (plus_sums
        (plus_sums
        (plus_sums (term_sums (low_reads j _ (omega arith) (at 80 j (omega arith) (omega arith)))) (term_sums (from_reads low 19 (low_reads (19 + j) _ (omega arith) (at 61 (19 + j) (omega arith) (omega arith))))))
        (term_sums (from_reads low 30 (low_reads (30 + j) _ (omega arith) (at 50 (30 + j) (omega arith) (omega arith))))))
        (term_sums (from_reads high 3 (high_reads (3 + j) _ (at 13 (64 + (3 + j)) (omega arith) (omega arith)))))))

    -- one of the two words, which has the bits that g tells
    module _ (g : Three → ℕ) (e x : ℕ) (small : x < 2 ^ key_length) (held : (i : ℕ) → i < key_length → bit x i ≡ g (k (2 * p + i))) (new : (j : ℕ) → j < 2 → bit e j ≡ g (k (2 * p + key_length + j))) where
      next_bits : (i : ℕ) → i < key_length → bit (slid 1 e x) i ≡ g (k (2 * suc p + i))
      next_bits =
          let same : (m n : ℕ) → m ≡ n → g (k m) ≡ g (k n) = λ m n e. ap (λ (i : ℕ). g (k i)) e in
          slid_bits 1 e x (omega arith) small (λ i. g (k (2 * suc p + i)))
          (λ i q. held (2 + i) q ∙ same (2 * p + (2 + i)) (2 * suc p + i) (omega arith))
          (λ j q. new j q ∙ same (2 * p + key_length + j) (2 * suc p + (key_length - 2 + j)) (omega arith))

    next_window : Holds key_length (record { ones = slid 1 (following_in w).ones (window_number w.ones); zeros = slid 1 (following_in w).zeros (window_number w.zeros) }) (λ i. k (2 * suc p + i))
    next_window =
        let e = following_in w in
        record {
          fit =
              record {
                ones_fit = slid_lt 1 e.ones (window_number w.ones) (omega arith) h.fit.ones_fit;
                zeros_fit = slid_lt 1 e.zeros (window_number w.zeros) (omega arith) h.fit.zeros_fit;
              };
          reads = λ i q.
              record {
                one_there = next_bits one_of e.ones (window_number w.ones) h.fit.ones_fit (λ j r. (h.reads j r).one_there) (λ j r. (follows j r).one_there) i q;
                zero_there = next_bits zero_of e.zeros (window_number w.zeros) h.fit.zeros_fit (λ j r. (h.reads j r).zero_there) (λ j r. (follows j r).zero_there) i q;
              };
        }

  next_holds : (v : ℕ) (key : List Three) → length key ≡ key_length → (p : ℕ) → Holds key_length (source_bits w) (source_at v key p) → Holds key_length (next_source v w) (source_at v key (suc p))
  next_holds v key l p h = by_kind (is_katan v) h
    where
      by_kind : (b : Bool) → Holds key_length (source_bits w) (λ i. pick b (k_at xor_three is0 key (2 * p + i)) (get_or key i is0))
          → Holds key_length (pick b (record { ones = slid 1 (following_in w).ones (window_number w.ones); zeros = slid 1 (following_in w).zeros (window_number w.zeros) }) (source_bits w)) (λ i. pick b (k_at xor_three is0 key (2 * suc p + i)) (get_or key i is0))
      by_kind true g = next_window key l p g
      by_kind false g = g

  -- LAW: the source moves along
  pub source_follows : (v : ℕ) (r : Known Window) → source_bits r ≡ next_source v w → Follows v w r
  source_follows v r e key p l h = subst (λ (k : Known ℕ). Holds key_length k (source_at v key (suc p))) (sym e) (next_holds v key l p h)

-- by the kind of variant
pub katan_next : (v : ℕ) (w r : Known Window) (e : Known ℕ) → is_katan v ≡ true → e ≡ following_in w
    → window_number r.ones ≡ slid 1 e.ones (window_number w.ones) → window_number r.zeros ≡ slid 1 e.zeros (window_number w.zeros) → source_bits r ≡ next_source v w
katan_next v w r e k f g h = rw (k, g, h, f)
