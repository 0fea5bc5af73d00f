-- What a screen answers that is lent a bench of the right length, with one word for the mask and with other memory for it.
-- Assumes nothing.
use mathlib.Core.Path.{◌≡◌, sym, ap, ◌∙◌}
use mathlib.Core.List.{List}
use Prim.Native.Nat.{ℕ}
use lib.ListN.{length}
use borrow.Author.Tests.{eq-eqb, ne_eqb}
use Rattle.katan.specs.Bit.{pick}
use Rattle.katan.specs.Checks.{Outcome, refused}
use Rattle.katan.specs.Lent.{status_of, lent_after}
use Rattle.bench.specs.declared.Bench.{Bench}
use Rattle.bench.specs.Bench.{lanes_of, held_check}
use Rattle.bench_screen.specs.Screen.{numbers_shown, screen_answer, screen_numbers}
use Rattle.bench_screen.proofs.Theorems.{looked_before}
use Rattle.driver_layout.specs.Layout.{bench_length, bench_in}
use Rattle.driver_reads.specs.Calls.{shown_words, shown_word, screen_call, screened_numbers}
use Rattle.katan.proofs.Lent.{same_answer}
use Rattle.driver_reads.proofs.Held.{either}

module _ (bench : List ℕ) (m : ℕ) (out shown : List ℕ) (n : length bench ≡ bench_length) where
  -- 2, unless the bench gets 1
  pub other_length : (length shown ≡ shown_words → ⊥) → screen_call bench m out shown ≡ refused (pick (held_check (bench_in bench)).fault 1 2)
  unfolding screen_call
  other_length k = rw (eq-eqb _ _ n, ne_eqb _ _ k) (either (held_check (bench_in bench)).fault)

  module _ (k : length shown ≡ shown_words) where
    -- the screen finds 1 by itself
    pub as_screen : screen_call bench m out shown ≡ screen_answer (bench_in bench) m out
    unfolding screen_call
    as_screen = rw (eq-eqb _ _ n, eq-eqb _ _ k) (looked_before (bench_in bench) m out)

    pub as_numbers : screened_numbers bench m out shown ≡ screen_numbers (bench_in bench) m out
    as_numbers = ap (λ (x : Outcome ℕ). lent_after (λ y. numbers_shown m (lanes_of (bench_in bench))) x out) as_screen

    -- status and lent memory, from what the screen of the bench that was read gives
    pub same_screen : {r : ℕ} {newout newshown : List ℕ} (b : Bench) (o : Outcome ℕ) → b ≡ bench_in bench → o ≡ screen_answer b m out → newout ≡ screen_numbers b m out
        → (r ≡ status_of o) × (newshown ≡ lent_after shown_word o shown)
        → (r ≡ status_of (screen_call bench m out shown)) × (newout ≡ screened_numbers bench m out shown) × (newshown ≡ lent_after shown_word (screen_call bench m out shown) shown)
    same_screen b o is e f g =
        let p = same_answer shown_word shown (e ∙ ap (λ (x : Bench). screen_answer x m out) is ∙ sym as_screen) g in (
          p.0,
          f ∙ ap (λ (x : Bench). screen_numbers x m out) is ∙ sym as_numbers,
          p.1,
        )
