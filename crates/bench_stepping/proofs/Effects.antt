-- What an arrival leaves, from what the checks decide of its record.
-- Assumes nothing.
use Rattle.std.specs.Prelude.{Result, Ok, Err}
use mathlib.Core.Path.{◌≡◌, sym, ap, ◌∙◌}
use mathlib.Core.List.{List}
use Prim.Native.Nat.{ℕ}
use Rattle.katan.specs.Checks.{Outcome, value}
use Rattle.katan.specs.declared.Refusal.{Refusal}
use Rattle.bench.specs.declared.Bench.{Bench}
use Rattle.bench.specs.declared.Reply.TheVariants.{Again}
use Rattle.bench.specs.declared.Link.{Link}
use Rattle.bench.specs.Checks.{arrival_checks, Turn as TurnOf, counts, turn_of, decision}
use Rattle.bench.specs.Bench.{bench_view, effect_as, arrive_of, effect_of}
use Rattle.katan.proofs.Checked.{all_passed}
use Rattle.bench_checks.specs.Decision.{decision_outcome}
use Rattle.bench_checks.specs.declared.Turn.{Turn}
use Rattle.bench_checks.specs.declared.Turn.TheVariants.{Counts, Repeats}
use Rattle.bench_moves.specs.inner.Sound.{SoundBench}

-- a record that counts found no fault in the bench
module _ (b : Bench) (l : Link) (s : List ℕ) where
  pub counts_sound : decision (bench_view b l) s ≡ value counts → SoundBench b
  unfolding decision arrival_checks bench_view
  counts_sound e = (all_passed counts (arrival_checks (bench_view b l) s) (value (turn_of l.last s)) e).0.0

pub counts_told : (d : Result Turn Refusal) {o : Outcome TurnOf} → decision_outcome d ≡ o → d ≡ Ok Counts → o ≡ value counts
counts_told d e f = sym e ∙ ap decision_outcome f

-- ---- what a repeat and a refused record leave

module _ {b : Bench} {l : Link} (s : List ℕ) (d : Result Turn Refusal) (e : decision_outcome d ≡ decision (bench_view b l) s) where
  pub repeat_effect : d ≡ Ok Repeats → effect_of (record { bench = b; link = l; reply = Ok (Again l.last l.total) }) ≡ arrive_of b l s
  unfolding arrive_of effect_as
  repeat_effect f = let g = sym (ap decision_outcome (sym f) ∙ e) in rw g

  pub refused_effect : {r : Refusal} → d ≡ Err r → effect_of (record { bench = b; link = l; reply = Err r }) ≡ arrive_of b l s
  unfolding arrive_of effect_as
  refused_effect f = let g = sym (ap decision_outcome (sym f) ∙ e) in rw g
