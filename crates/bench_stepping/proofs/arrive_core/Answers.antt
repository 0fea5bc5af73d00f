use mathlib.Core.Path.{◌≡◌, ap, ◌∙◌}
use Rattle.std.specs.Prelude.{Ok}
use Rattle.bench.specs.Bench.{bench_view, counted_effect, effect_as, arrive_of}
use Rattle.bench.proofs.Turns.{counts_next}
use Rattle.bench_record.proofs.Parts.{whole_record}
use Rattle.bench_stepping.proofs.Effects.{counts_sound, counts_told, repeat_effect, refused_effect}
use Rattle.bench_checks.specs.declared.Turn.TheVariants.{Counts, Repeats}
use Rattle.bench_stepping.proofs.arrive_core.Goals as goal

pub step-after-requires : goal.step-after-requires
step-after-requires c =
    let a = c.args in
    let told : c.decided-found.result.decision ≡ Ok Counts = c.in-Ok-Counts.is ∙ ap Ok (rw c.in-Ok-Counts.is at c.in-Ok-Counts.field-0-is) in
    let counting = counts_told _ c.decided-found.ensures.1 told in (
      counts_sound a.bench a.link a.sent.now counting,
      rw c.decided-found.ensures.0 (counts_next (bench_view a.bench a.link) a.sent.now counting).0.lane_in,
    )

pub returns-in-Ok-Counts : goal.returns-in-Ok-Counts
unfolding arrive_of effect_as counted_effect
returns-in-Ok-Counts c =
    let a = c.args in
    let told : c.decided-found.result.decision ≡ Ok Counts = c.in-Ok-Counts.is ∙ ap Ok (rw c.in-Ok-Counts.is at c.in-Ok-Counts.field-0-is) in
    let counting = counts_told _ c.decided-found.ensures.1 told in
    let whole = whole_record a.sent.now (counts_next (bench_view a.bench a.link) a.sent.now counting).0.size in
    simp (counting, c.record_in.ensures ∙ whole, c.step-after.ensures.0, c.step-after.ensures.1, c.decided-found.ensures.0)

pub returns-in-Ok-Repeats : goal.returns-in-Ok-Repeats
returns-in-Ok-Repeats c =
    let told : c.decided-found.result.decision ≡ Ok Repeats = c.in-Ok-Repeats.is ∙ ap Ok (rw c.in-Ok-Repeats.is at c.in-Ok-Repeats.field-0-is) in
    repeat_effect c.args.sent.now _ c.decided-found.ensures.1 told

pub returns-in-Err : goal.returns-in-Err
returns-in-Err c = refused_effect c.args.sent.now _ c.decided-found.ensures.1 c.in-Err.is
