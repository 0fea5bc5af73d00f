-- Blocks of s bytes one after the other: where a byte stands, and which it is.
-- Assumes nothing.
use mathlib.Core.Path.{◌≡◌, refl, sym, ap, ap₂, ◌∙◌}
use mathlib.Core.List.{List, ◌++◌}
use Prim.Native.Nat.{ℕ, zero, suc, ◌+◌, ◌-◌, ◌*◌, ◌/◌, ◌%◌, ◌^◌, ◌<◌, ◌≤◌}
use native.Mathlib.Nat.{add-zero, mul-add-div, mul-add-mod_self_left, div-eq_of_lt, mod-eq_of_lt}
use native.Mathlib.Omega.{arith}
use lib.ListN.{length, get_or, take, drop}
use Rattle.katan.specs.Bit.{bytes_of}
use Rattle.katan.specs.inner.Within.{Entries}
use Rattle.katan.proofs.Numbers.{length-bytes}
use Rattle.lanes_keystream.specs.inner.Batch.{byte_of}
use Rattle.lanes_keystream.proofs.Parts.{written_on, part_written, written_less}

-- byte r of block i
module _ (s i r : ℕ) (q : r < s) where
  place_block : (s * i + r) / s ≡ i
  place_block = mul-add-div {m = s} (omega arith) i r ∙ ap (λ (x : ℕ). i + x) (div-eq_of_lt q) ∙ add-zero i

  pub place_byte : (s * i + r) % s ≡ r
  place_byte = mul-add-mod_self_left s i r ∙ mod-eq_of_lt q

  at_place : (x : ℕ → ℕ) → byte_of s x (s * i + r) ≡ get_or (bytes_of s (x i)) r 0
  at_place x = ap₂ (λ (k l : ℕ). get_or (bytes_of s (x k)) l 0) place_block place_byte

-- the low bytes of a number are the same in how many it is written
low_bytes : (m n x r : ℕ) → r < m → m ≤ n → get_or (bytes_of n x) r 0 ≡ get_or (bytes_of m x) r 0
unfolding bytes_of
low_bytes zero n x r q h = absurd (omega arith)
low_bytes (suc m) zero x r q h = absurd (omega arith)
low_bytes (suc m) (suc n) x zero q h = refl
low_bytes (suc m) (suc n) x (suc r) q h = low_bytes m n (x / 2 ^ 8) r (omega arith) (omega arith)

next_block : (s i : ℕ) → s * (i + 1) ≡ s * i + s
next_block s i = omega arith

-- the part of block i is lent, and given back as ys: w entries, of which the first s are its own
part_on : (s w i k : ℕ) (f : ℕ → ℕ) (xs ys : List ℕ) → s ≤ w → s * i + w ≤ length xs → k ≡ w → length ys ≡ w → ((r : ℕ) → r < s → get_or ys r 0 ≡ f (s * i + r))
    → Entries f (s * i) xs → Entries f (s * (i + 1)) (take (s * i) xs ++ (ys ++ drop k (drop (s * i) xs)))
part_on s w i k f xs ys h room e l own before =
    rw (next_block s i, e)
    (written_on f (λ j. get_or ys (j - s * i) 0) (s * i) (s * i + s) xs _
    (written_less (s * i) (s * i + w) (s * i + s) _ xs _ (omega arith) (part_written (s * i) w xs ys room l))
    (λ j p q.
    let d : s * i + (j - s * i) ≡ j = omega arith in
    own (j - s * i) (omega arith) ∙ ap f d)
    before)

-- block i is written as a word of w bytes
pub word_on : (s w i k : ℕ) (x : ℕ → ℕ) (xs ys : List ℕ) → s ≤ w → s * i + w ≤ length xs → k ≡ w → ys ≡ bytes_of w (x i)
    → Entries (byte_of s x) (s * i) xs → Entries (byte_of s x) (s * (i + 1)) (take (s * i) xs ++ (ys ++ drop k (drop (s * i) xs)))
word_on s w i k x xs ys h room f e =
    part_on s w i k (byte_of s x) xs ys h room f (ap length e ∙ length-bytes w (x i))
    (λ r q. ap (λ (zs : List ℕ). get_or zs r 0) e ∙ low_bytes s w (x i) r q h ∙ sym (at_place s i r q x))

-- the key of block i is written
pub key_on : (w i k : ℕ) (key xs ys : List ℕ) → length key ≡ w → w * i + w ≤ length xs → k ≡ w → ys ≡ key
    → Entries (λ j. get_or key (j % w) 0) (w * i) xs → Entries (λ j. get_or key (j % w) 0) (w * (i + 1)) (take (w * i) xs ++ (ys ++ drop k (drop (w * i) xs)))
key_on w i k key xs ys l room f e =
    part_on w w i k (λ j. get_or key (j % w) 0) xs ys (omega arith) room f (ap length e ∙ l)
    (λ r q. ap (λ (zs : List ℕ). get_or zs r 0) e ∙ ap (λ (m : ℕ). get_or key m 0) (sym (place_byte w i r q)))
