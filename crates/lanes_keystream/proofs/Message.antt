-- A message, batch by batch.
-- Assumes nothing.
use mathlib.Core.Path.{◌≡◌, refl, sym, ap, ap₂, subst, ◌∙◌}
use mathlib.Core.Bool.{Bool, true, false}
use mathlib.Core.List.{List}
use Prim.Native.Nat.{ℕ, min, ◌+◌, ◌-◌, ◌*◌, ◌/◌, ◌%◌, ◌<◌, ◌≤◌}
use native.Mathlib.Nat.{mul-add, mul_comm, mul-le-mul, mul-le-mul_left, mul-add-div, mul-add-mod_self_left}
use native.Mathlib.Omega.{arith}
use borrow.Author.Tests.{ltb-true, ltb-false}
use lib.Dec.{ltb}
use lib.ListN.{length, get_or, take, drop, length-drop}
use lib.Seq.{ext_get_or, get_or-take, get_or-drop, length-take-le}
use Rattle.katan.specs.Bit.{xor, number_in, bytes_of}
use Rattle.katan.specs.Sizes.{lane_count, word_bytes, key_bytes}
use Rattle.katan.specs.Machine.{encryption}
use Rattle.katan.specs.inner.Within.{Entries}
use Rattle.lanes.specs.Many.{block_key}
use Rattle.lanes_keystream.specs.Stream.{block_bytes, block_count, longest_message, out_byte, streamed}
use Rattle.lanes_keystream.specs.inner.Batch.{batch_length, Written, byte_of}
use Rattle.lanes_keystream.proofs.Places.{place_byte}
use Rattle.lanes_keystream.proofs.Counter.{some_bytes, most_bytes, covered, starts_within, is_streamed}

-- each block of a batch has the one key
pub repeated_key : (key keys : List ℕ) → length key ≡ key_bytes → length keys ≡ key_bytes * lane_count → Entries (λ j. get_or key (j % key_bytes) 0) (key_bytes * lane_count) keys
    → (i : ℕ) → i < lane_count → block_key keys i ≡ number_in key
repeated_key key keys l k e i q =
    let r : length (drop (key_bytes * i) keys) ≡ length keys - key_bytes * i = length-drop (key_bytes * i) keys in
    let m : length (take key_bytes (drop (key_bytes * i) keys)) ≡ key_bytes = length-take-le key_bytes (drop (key_bytes * i) keys) (omega arith) in
    ap number_in
    (ext_get_or 0 (take key_bytes (drop (key_bytes * i) keys)) key (m ∙ sym l)
    (λ j p.
    let r : j < key_bytes = omega arith in
    get_or-take key_bytes (drop (key_bytes * i) keys) j 0 r
    ∙ get_or-drop (key_bytes * i) keys j 0
    ∙ e (key_bytes * i + j) (omega arith)
    ∙ ap (λ (n : ℕ). get_or key n 0) (place_byte key_bytes i j r)))

-- what each turn keeps to, with blocks of s bytes, of which first are done and count are next
pub record Turn (s first count m : ℕ) : Type 0 where
  pub inside : s * first < m
  pub fits : s * count ≤ batch_length
  pub early : first ≤ longest_message
  pub next : s * first < s * first + s * count

pub turn : (v s blocks first count m : ℕ) → s ≡ block_bytes v → blocks ≡ block_count v m → m ≤ longest_message → first < blocks
    → count ≡ min lane_count (blocks - first) → Turn s first count m
turn v s blocks first count m e b short q w =
    let i : first * block_bytes v < m = starts_within v m first (subst (λ (n : ℕ). first < n) b q) in
    let one : first * 1 ≤ first * block_bytes v = mul-le-mul_left first (some_bytes v) in
    let least : 1 * 1 ≤ block_bytes v * count = let l : 1 ≤ count = omega arith in mul-le-mul (some_bytes v) l in
    let most : block_bytes v * count ≤ word_bytes * lane_count = let l : count ≤ lane_count = omega arith in mul-le-mul (most_bytes v) l in
    record {
      inside = subst (λ (k : ℕ). k * first < m) (sym e) (subst (λ (n : ℕ). n < m) (mul_comm first (block_bytes v)) i);
      fits = subst (λ (k : ℕ). k * count ≤ batch_length) (sym e) most;
      early = omega (arith, one);
      next = subst (λ (k : ℕ). k * first < k * first + k * count) (sym e) (omega (arith, least));
    }

module _ (v key start : ℕ) (message : List ℕ) where
  -- the bytes of the first n blocks are combined
  abbrev pub Combined : (n : ℕ) → List ℕ → Type 0
  Combined n out = (j : ℕ) → j < length message → j < block_bytes v * n → get_or out j 0 ≡ out_byte v key start message j

  -- a batch of count blocks of s bytes more
  abbrev More : (first count end : ℕ) (stream old new : List ℕ) (s : ℕ) → Type 0
  More first count end stream old new s =
      Written (s * first) end (λ j. xor (get_or message j 0) (get_or stream (j - s * first) 0)) old new
      → Entries (byte_of s (λ i. encryption v key (start + (first + i)))) (s * count) stream
      → ((j : ℕ) → j < s * first + s * count → j < length message → j < end)
      → Combined first old → Combined (first + count) new

  combined_on : (first count end : ℕ) (stream old new : List ℕ) → More first count end stream old new (block_bytes v)
  combined_on first count end stream old new w e reach before j q p = go (ltb j (s * first)) refl
    where
      s : ℕ
      s = block_bytes v

      sum : s * (first + count) ≡ s * first + s * count
      sum = mul-add s first count

      go : (b : Bool) → ltb j (s * first) ≡ b → get_or new j 0 ≡ out_byte v key start message j
      go true d =
          let l = ltb-true j (s * first) d in
          w.before j l ∙ before j q l
      go false d =
          let l = ltb-false j (s * first) d in
          let r = j - s * first in
          let h : j < s * first + s * count = omega (arith, sum) in
          let t : s * first + r ≡ j = omega arith in
          let block : j / s ≡ first + r / s = ap (λ (n : ℕ). n / s) (sym t) ∙ mul-add-div {m = s} (some_bytes v) first r in
          let byte : j % s ≡ r % s = ap (λ (n : ℕ). n % s) (sym t) ∙ mul-add-mod_self_left s first r in
          w.there j l (reach j h q)
          ∙ ap (xor (get_or message j 0))
          (e r (omega arith) ∙ sym (ap₂ (λ (i k : ℕ). get_or (bytes_of s (encryption v key (start + i))) k 0) block byte))

  pub combined_more : (s : ℕ) → s ≡ block_bytes v → (first count end : ℕ) (stream old new : List ℕ) → More first count end stream old new s
  combined_more s e first count end stream old new = subst (More first count end stream old new) (sym e) (combined_on first count end stream old new)

  -- all of it
  pub all_combined : (blocks : ℕ) (out : List ℕ) → blocks ≡ block_count v (length message) → length out ≡ length message → Combined blocks out → out ≡ streamed v key start message
  all_combined blocks out e l h =
      let m = length message in
      let c : m ≤ block_bytes v * block_count v m = subst (λ (n : ℕ). m ≤ n) (mul_comm (block_count v m) (block_bytes v)) (covered v m) in
      is_streamed v key start message out l (λ j q. h j q (omega (arith, ap (λ (n : ℕ). block_bytes v * n) e)))
