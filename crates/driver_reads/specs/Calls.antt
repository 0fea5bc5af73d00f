-- What the calls of a driver that only read a bench answer, and what they leave in the memory lent to them. A bench of another length is refused by 2
-- before anything is looked for in it; then come 1, other lengths, and the rest by rising number.
-- Assumes nothing.
use Rattle.std.specs.Prelude.{ℕ, List, [], ◌∷◌}
use Rattle.katan.specs.Checks.{Outcome, checked, size_check}
use Rattle.katan.specs.Lent.{lent_after}
use Rattle.bench.specs.Calls.{Response, done, again, at, Answer}
use Rattle.bench.specs.Bench.{lanes_of, held_check, read_of}
use Rattle.bench_screen.specs.Screen.{numbers_shown, screen_answer}
use Rattle.driver_layout.specs.Layout.{bench_length, bench_in}

-- an answer in words, as a driver gets it: 'done' is 0, number, total; 'again' is 1, number, total; a read gives position, registers
abbrev pub response_words : Response → List ℕ
response_words (done n t) = 0 ∷ n ∷ t ∷ []
response_words (again n t) = 1 ∷ n ∷ t ∷ []
response_words (at r) = r.position.0 ∷ r.registers ∷ []

-- ---- a read

-- the words lent for its answer
abbrev pub reading_words : ℕ
reading_words = 2

unfoldable pub read_call : (bench : List ℕ) → ℕ → (answer : List ℕ) → Answer
read_call bench i answer =
    checked
    (size_check bench_length bench ∷ held_check (bench_in bench) ∷ size_check reading_words answer ∷ [])
    (read_of (bench_in bench) i)

-- ---- a screen

-- the words lent for the mask that it shows
abbrev pub shown_words : ℕ
shown_words = 1

abbrev pub shown_word : ℕ → List ℕ
shown_word m = m ∷ []

module _ (bench : List ℕ) (m : ℕ) (out shown : List ℕ) where
  unfoldable pub screen_call : Outcome ℕ
  screen_call =
      checked
      (size_check bench_length bench ∷ held_check (bench_in bench) ∷ size_check shown_words shown ∷ [])
      (screen_answer (bench_in bench) m out)

  abbrev pub screened_numbers : List ℕ
  screened_numbers = lent_after (λ x. numbers_shown m (lanes_of (bench_in bench))) screen_call out
