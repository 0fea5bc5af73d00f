-- What the checks of an arrival decide, from what the code compares.
-- Assumes nothing.
use mathlib.Core.Path.{◌≡◌, sym, ap, ◌∙◌}
use mathlib.Core.Bool.{true, false}
use mathlib.Core.List.{List}
use Prim.Native.Nat.{ℕ}
use borrow.Author.Tests.{eq-eqb, ne_eqb}
use lib.ListN.{length}
use Rattle.katan.specs.Checks.{Outcome, value, refused, checked}
use Rattle.bench_record.specs.Fields.{record_length, decode}
use Rattle.bench_record.specs.Checks.{field_checks}
use Rattle.bench.specs.declared.Bench.{Bench}
use Rattle.bench.specs.declared.Link.{Link}
use Rattle.bench.specs.Checks.{Turn, turn_checks, turn_of, decision}
use Rattle.bench.specs.Bench.{held_check, bench_view}
use Rattle.katan.proofs.Checked.{all_passed, no_fault_found, fault_found}
use Rattle.bench.proofs.Turns.{turn_outcome, decision_parts, decided_1}

module _ (b : Bench) (l : Link) (s : List ℕ) where
  -- 3 to 8, and what they leave
  abbrev after_form : Outcome Turn → Outcome Turn
  after_form = checked (field_checks b.variant (decode s))

  abbrev reply : Outcome Turn
  reply = value (turn_of l.last s)

  pub refused_1 : (held_check b).fault ≡ true → refused 1 ≡ decision (bench_view b l) s
  unfolding bench_view
  refused_1 e = sym (decided_1 (bench_view b l) s e)

  module _ (sound : (held_check b).fault ≡ false) where
    pub refused_2 : (length s ≡ record_length → ⊥) → refused 2 ≡ decision (bench_view b l) s
    unfolding bench_view
    refused_2 h = sym (decision_parts (bench_view b l) s ∙ rw (sound, ne_eqb (length s) record_length h))

    module _ (size : length s ≡ record_length) where
      rest : decision (bench_view b l) s ≡ checked (turn_checks l.last l.bytes s) (after_form reply)
      unfolding bench_view
      rest = decision_parts (bench_view b l) s ∙ rw (sound, eq-eqb (length s) record_length size)

      pub refused_9_10 : (k : ℕ) → refused k ≡ turn_outcome l.last l.bytes s → refused k ≡ decision (bench_view b l) s
      refused_9_10 k e = sym (rest ∙ fault_found (turn_of l.last s) (after_form reply) k (turn_checks l.last l.bytes s) (sym e))

      -- a record in its turn: what is left are 3 to 8
      pub form_decides : (t : Turn) → value t ≡ turn_outcome l.last l.bytes s → after_form (value t) ≡ decision (bench_view b l) s
      form_decides t e =
          let p = all_passed t (turn_checks l.last l.bytes s) reply (sym e) in
          sym (rest ∙ no_fault_found (turn_checks l.last l.bytes s) (after_form reply) p.0 ∙ ap after_form p.1)
