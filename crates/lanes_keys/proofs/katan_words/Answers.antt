use mathlib.Core.List.{List, ◌++◌}
use mathlib.Core.Path.{◌≡◌, sym, ap, ◌∙◌}
use Prim.Native.Nat.{ℕ, ◌*◌, ◌<◌}
use native.Mathlib.Omega.{arith}
use borrow.Author.Rules.{rules}
use lib.ListN.{length, get_or, get_or-append}
use Rattle.katan.specs.Counter.{rounds}
use Rattle.katan.specs.Key.{key_length}
use Rattle.lanes_keys.specs.RoundWords.{k_word}
use Rattle.lanes_keys.proofs.KeyWords.{k_word_low, k_word_next}
use Rattle.lanes_keys.proofs.Doubled.{doubled}
use Rattle.lanes_keys.proofs.katan_words.Goals as goal

-- the first words are the key's
first : (xs ys key : List ℕ) → xs ≡ key → (i : ℕ) → i < length key → get_or (xs ++ ys) i 0 ≡ get_or key i 0
first xs ys key e i q = get_or-append xs ys 0 i (omega (arith, ap length e)) ∙ ap (λ (l : List ℕ). get_or l i 0) e

pub returns : goal.returns
returns c =
    let key = c.args.key in
    let n : length key ≡ key_length = search rules in
    c.extend-2.ensures.by_index (k_word key)
    (c.extend.ensures.by_index (k_word key) (λ i p. first _ _ key c.copy_from_slice.ensures.after i (omega (arith, n)) ∙ sym (k_word_low key n i p)) (λ i p q. k_word_next key n i p))
    (doubled (k_word key) (2 * rounds) (λ i p q. k_word_next key n i p))
