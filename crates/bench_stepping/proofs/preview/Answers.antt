use mathlib.Core.Path.{ap}
use Rattle.bench.specs.Bench.{Effect}
use Rattle.bench.specs.Preview.{PreviewEffect, preview_of}
use Rattle.bench_stepping.proofs.preview.Goals as goal

-- what is shown of what an arrival leaves
abbrev shown : Effect → PreviewEffect
shown e = record { answer = e.answer; bench = e.bench }

pub returns : goal.returns
unfolding preview_of
returns c = ap shown c.arrive_once-reply.ensures
