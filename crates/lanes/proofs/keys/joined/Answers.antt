use mathlib.Core.List.{List, ◌++◌}
use mathlib.Core.Path.{◌≡◌, refl, ap, ◌∙◌}
use mathlib.Core.Bool.{Bool, true, false}
use Prim.Native.Nat.{ℕ, ◌+◌, ◌-◌, ◌<◌}
use native.Mathlib.Omega.{arith}
use borrow.Author.Tests.{leb-true, leb-false}
use lib.Dec.{leb}
use lib.ListN.{length, get_or, take, drop, get_or-append, length-drop}
use lib.Seq.{length-take-le}
use Rattle.std.proofs.lemmas.List.{get_or-append_right, take-append-le, take_all, get_or-take, get_or-drop}
use Rattle.katan.specs.Bit.{pick}
use Rattle.katan.specs.Key.{key_length}
use Rattle.katan.specs.Sizes.{word_bits}
use Rattle.katan.specs.inner.Within.{Entries}
use Rattle.lanes.specs.inner.Words.{high_bits, high_place, key_word}
use Rattle.lanes.proofs.keys.joined.Goals as goal

-- two lists, one after the other
module _ (low high b rest : List ℕ) (q : b ≡ take high_bits (drop high_place high)) (l' : length high ≡ word_bits) where
  many : length b ≡ high_bits
  many = ap length q ∙ length-take-le high_bits (drop high_place high) (omega (arith, length-drop high_place high))

  by_place : (a : List ℕ) → a ≡ low → length a ≡ word_bits → (i : ℕ) → i < key_length → (t : Bool) → leb word_bits i ≡ t
      → get_or (a ++ (b ++ rest)) i 0 ≡ pick t (get_or high (i - high_bits) 0) (get_or low i 0)
  by_place a p l i h false e =
      get_or-append a (b ++ rest) 0 i (omega (arith, leb-false word_bits i e)) ∙ ap (λ (xs : List ℕ). get_or xs i 0) p
  by_place a p l i h true e =
      let d : word_bits + (i - word_bits) ≡ i = omega (arith, leb-true word_bits i e) in
      let k : high_place + (i - word_bits) ≡ i - high_bits = omega (arith, leb-true word_bits i e) in
      get_or-append_right a (b ++ rest) word_bits i 0 l (leb-true word_bits i e)
      ∙ get_or-append b rest 0 (i - word_bits) (omega (arith, many))
      ∙ ap (λ (xs : List ℕ). get_or xs (i - word_bits) 0) q
      ∙ get_or-take high_bits (drop high_place high) (i - word_bits) 0 (omega arith)
      ∙ get_or-drop high_place high (i - word_bits) 0
      ∙ ap (λ (n : ℕ). get_or high n 0) k

  whole : (a z : List ℕ) → a ≡ low → length a ≡ word_bits → Entries (key_word low high) key_length (take word_bits (a ++ z) ++ (b ++ rest))
  whole a z p l i h =
      let e : take word_bits (a ++ z) ≡ a = take-append-le word_bits a z (omega arith) ∙ take_all word_bits a (omega arith) in
      by_place (take word_bits (a ++ z)) (e ∙ p) (ap length e ∙ l) i h (leb word_bits i) refl

pub returns : goal.returns
returns c =
    let one = c.copy_from_slice.ensures in
    let two = c.copy_from_slice-2.ensures in
    whole c.args.low.now c.args.high.now _ _ two.after c.told-high _ _ one.after one.len
