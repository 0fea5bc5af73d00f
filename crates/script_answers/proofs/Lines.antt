-- The printed lines fit their room.
-- Assumes nothing.
use Prim.Native.Nat.{ℕ, zero, suc, ◌-◌, ◌≤◌}
use mathlib.Core.Path.{◌≡◌, refl, ap, ap₂, ◌∙◌}
use mathlib.Core.List.{List, [], ◌∷◌, ◌++◌}
use native.Mathlib.Nat.{sub-zero, zero-sub, suc-sub-suc}
use native.Mathlib.Omega.{arith}
use lib.ListN.{length, replicate, drop, length-append}
use Rattle.katan.specs.Checks.{value, refused}
use Rattle.script_form.specs.Form.{block_digits}
use Rattle.script_form.proofs.Lengths.{decimal_most, length-fixed}
use Rattle.script_form.proofs.Blocks.{digits_fit}
use Rattle.script_answers.specs.declared.Printed.{Printed}
use Rattle.bench.specs.Calls.{done, again, at, Answer}
use Rattle.bench.specs.Bench.{reply_answer}
use Rattle.std.specs.Prelude.{Result, Ok, Err}
use Rattle.katan.specs.declared.Refusal.{Refusal}
use Rattle.bench.specs.declared.Reply.{Reply}
use Rattle.bench.specs.declared.Reply.TheVariants.{Done, Again}
use Rattle.script_answers.specs.Printed.{line_as, opened_line, answer_line, printed_as, room}

pub drop_zeros : (k n : ℕ) → drop {A = ℕ} k (replicate n 0) ≡ replicate (n - k) 0
drop_zeros zero n = rw (sub-zero n)
drop_zeros (suc k) zero = rw (zero-sub (suc k))
drop_zeros (suc k) (suc n) = drop_zeros k n ∙ rw (suc-sub-suc n k)

-- a line written into a room of zeros
pub as_printed : (line : List ℕ) (r : Printed) → r.length ≡ length line → r.bytes ≡ line ++ drop (length line) (replicate room 0) → r ≡ printed_as line
as_printed line r e f =
    ap₂ (λ (b : List ℕ) (n : ℕ). record { bytes = b; length = n }) (f ∙ ap (λ (z : List ℕ). line ++ z) (drop_zeros (length line) room)) e

module _ (n t : ℕ) where
  pub opened_fits : length (line_as 0 "(bench %)" (n ∷ [])) ≤ room
  opened_fits = simp length-append (omega (arith, decimal_most n))

  pub refused_fits : length (line_as 0 "(refused %)" (n ∷ [])) ≤ room
  refused_fits = simp length-append (omega (arith, decimal_most n))

  pub done_fits : length (line_as 0 "(done # #)" (n ∷ t ∷ [])) ≤ room
  done_fits = simp length-append (omega (arith, decimal_most n, decimal_most t))

  pub again_fits : length (line_as 0 "(again # #)" (n ∷ t ∷ [])) ≤ room
  again_fits = simp length-append (omega (arith, decimal_most n, decimal_most t))

  pub at_fits : (d x : ℕ) → d ≤ 16 → length (line_as d "(at % % *)" (n ∷ t ∷ x ∷ [])) ≤ room
  at_fits d x h = simp length-append (omega (arith, decimal_most n, decimal_most t, length-fixed 16 d x))

-- the answer to a record shows no lane and no registers
pub reply_line : (v lane : ℕ) (r : Result Reply Refusal) → answer_line 0 0 (reply_answer r) ≡ answer_line v lane (reply_answer r)
unfolding answer_line
reply_line v lane (Ok (Done number total)) = refl
reply_line v lane (Ok (Again number total)) = refl
reply_line v lane (Err k) = refl

-- ---- every printed line

pub opened_line_fits : (v : ℕ) → length (opened_line v) ≤ room
unfolding opened_line
opened_line_fits v = opened_fits v 0

pub answer_line_fits : (v lane : ℕ) (a : Answer) → length (answer_line v lane a) ≤ room
unfolding answer_line
answer_line_fits v lane (value (done number total)) = done_fits number total
answer_line_fits v lane (value (again number total)) = again_fits number total
answer_line_fits v lane (value (at r)) = at_fits lane r.position.0 (block_digits v) r.registers (digits_fit v)
answer_line_fits v lane (refused k) = refused_fits k 0
