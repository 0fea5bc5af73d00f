use mathlib.Core.Path.{◌≡◌}
use lib.ListN.{length}
use Rattle.bench_replay.specs.Encoding.{fits as fits_in}
use Rattle.bench_replay.proofs.calls.fits.Given as goal

abbrev pub invariant-loop-after : goal.invariant-loop-after
invariant-loop-after l = fits_in l.rest l.left ≡ fits_in l.bytes l.room

abbrev pub decreases-loop-after : goal.decreases-loop-after
decreases-loop-after l = length l.rest
