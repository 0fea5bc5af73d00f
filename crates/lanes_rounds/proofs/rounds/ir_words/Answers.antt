use mathlib.Core.Path.{◌≡◌, refl, ap, ◌∙◌}
use mathlib.Core.List.{List, [], ◌∷◌}
use Prim.Native.Nat.{ℕ, zero, suc}
use lib.ListN.{get_or}
use Rattle.katan.specs.Bit.{tabulate}
use Rattle.katan.specs.Counter.{tick, counter, ir_of}
use Rattle.katan.proofs.Tables.{entry}
use Rattle.lanes_rounds.specs.inner.Buffers.{spread}
use Rattle.lanes_rounds.proofs.rounds.ir_words.Goals as goal

abbrev rule : ℕ → ℕ
rule i = spread (ir_of (counter i))

-- the words of n rounds, from a round with T = t on
abbrev words : ℕ → ℕ → List ℕ
words t zero = []
words t (suc n) = spread (ir_of t) ∷ words (tick t) n

words-rule : (r n : ℕ) → words (counter r) n ≡ tabulate rule r n
words-rule r zero = refl
words-rule r (suc n) = ap (λ (xs : List ℕ). rule r ∷ xs) (words-rule (suc r) n)

pub returns : goal.returns
returns c = λ j q. ap (λ (xs : List ℕ). get_or xs j 0) (words-rule 0 254) ∙ entry rule 254 j 0 q
