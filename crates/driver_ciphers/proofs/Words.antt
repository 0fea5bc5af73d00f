-- An answer that is put into words, and the answer itself, leave the same status and the same words, whatever checks come before them.
-- Assumes nothing.
use Rattle.std.proofs.Common.{◌≡◌, refl, ◌∙◌, Bool, true, false, List, [], ◌∷◌, ℕ, Result, Ok, Err, MatchResult, IsOkAnd}
use Rattle.katan.specs.declared.Refusal.{Refusal}
use Rattle.katan.specs.Bit.{pick}
use Rattle.katan.specs.Checks.{Outcome, refused, Check, checked, outcome}
use Rattle.katan.specs.Lent.{status_of, lent_after}

module _ {A : Type 0} (f : A → List ℕ) (out : List ℕ) where
  abbrev Same : Outcome (List ℕ) → Outcome A → Type 0
  Same p o = (status_of p ≡ status_of o) × (lent_after (λ ws. ws) p out ≡ lent_after f o out)

  one_check : (b : Bool) (k : ℕ) (p : Outcome (List ℕ)) (o : Outcome A) → Same p o → Same (pick b (refused k) p) (pick b (refused k) o)
  one_check true k p o e = (refl, refl)
  one_check false k p o e = e

  same_checks : (cs : List Check) (p : Outcome (List ℕ)) (o : Outcome A) → Same p o → Same (checked cs p) (checked cs o)
  same_checks [] p o e = e
  same_checks (c ∷ cs) p o e = one_check c.fault c.number (checked cs p) (checked cs o) (same_checks cs p o e)

  in_words : (r : Result A Refusal) (s : Result (List ℕ) Refusal) → MatchResult r (λ x. IsOkAnd s (λ y. y ≡ f x)) (λ e. s ≡ Err e) → Same (outcome s) (outcome r)
  in_words (Ok x) (Ok y) e = (refl, e)
  in_words (Ok x) (Err k) e = absurd e
  in_words (Err k) s e = rw e (refl, refl)

  -- status and words of a call, from what was put
  pub answered : (cs : List Check) (r : Result A Refusal) (s : Result (List ℕ) Refusal) {o : Outcome A} {n : ℕ} {new : List ℕ}
      → MatchResult r (λ x. IsOkAnd s (λ y. y ≡ f x)) (λ e. s ≡ Err e) → outcome r ≡ o
      → n ≡ status_of (checked cs (outcome s)) → new ≡ lent_after (λ ws. ws) (checked cs (outcome s)) out
      → (n ≡ status_of (checked cs o)) × (new ≡ lent_after f (checked cs o) out)
  answered cs r s put is g h =
      let same = same_checks cs (outcome s) (outcome r) (in_words r s put) in
      rw (← is) (g ∙ same.0, h ∙ same.1)
