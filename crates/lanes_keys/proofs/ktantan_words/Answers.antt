use mathlib.Core.List.{List}
use mathlib.Core.Path.{◌≡◌, ap, ◌∙◌}
use Prim.Native.Nat.{ℕ, ◌*◌, ◌<◌}
use native.Mathlib.Omega.{arith}
use lib.ListN.{length-set, get_or}
use Rattle.katan.specs.Bit.{tabulate}
use Rattle.katan.specs.Counter.{rounds}
use Rattle.katan.specs.Key.{key_length, key_bit_number}
use Rattle.katan.proofs.Tables.{entry, number_below}
use Rattle.katan.proofs.Fill.{filled}
use Rattle.lanes_keys.proofs.ktantan_words.Goals as goal

number_at : (xs : List ℕ) → xs ≡ tabulate key_bit_number 0 (2 * rounds) → (i : ℕ) → i < 2 * rounds → get_or xs i 0 ≡ key_bit_number i
number_at xs e i q = ap (λ (l : List ℕ). get_or l i 0) e ∙ entry key_bit_number (2 * rounds) i 0 q

picked_below : (i n : ℕ) (numbers : List ℕ) → numbers ≡ tabulate key_bit_number 0 (2 * rounds) → n ≡ get_or numbers i 0 → i < 2 * rounds → n < key_length
picked_below i n numbers e is q = rw (is ∙ number_at numbers e i q) (number_below i q)

pub bounds-key-from : goal.bounds-key-from
bounds-key-from c = picked_below _ _ _ c.key_bit_numbers-numbers.ensures c.from.ensures c.loop-i-test.true

pub loop-i-preserved : goal.loop-i-preserved
loop-i-preserved c =
    let l = c.loop-i in
    let key = c.args.key in (
      length-set l.words l.i _ ∙ l.invariant.0,
      filled (λ j. get_or key (get_or c.key_bit_numbers-numbers.result j 0) 0) l.words l.i _ (omega arith) l.invariant.1 (ap (λ (n : ℕ). get_or key n 0) c.from.ensures),
    )

pub returns : goal.returns
returns c = λ j q.
    let k = c.key_bit_numbers-numbers in
    let key = c.args.key in
    c.loop-i.invariant.1 j (omega arith) ∙ ap (λ (n : ℕ). get_or key n 0) (number_at k.result k.ensures j q)
