-- What is read of memory that has the length asked for.
-- Assumes nothing.
use mathlib.Core.Path.{◌≡◌, ap, ◌∙◌}
use mathlib.Core.List.{List}
use Prim.Native.Nat.{ℕ}
use lib.ListN.{length}
use borrow.Author.Tests.{eq-eqb}
use Rattle.bench.specs.declared.Bench.{Bench}
use Rattle.driver_layout.specs.Layout.{bench_length, bench_in, read_as}

pub bench_read : (s : List ℕ) (b : Bench) → length s ≡ bench_length → b ≡ bench_in (read_as bench_length s) → b ≡ bench_in s
bench_read s b e f = f ∙ ap bench_in (rw (eq-eqb (length s) bench_length e))
