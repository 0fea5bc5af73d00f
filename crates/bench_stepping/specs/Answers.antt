-- What this crate's calls give, in the words of their definitions.
-- Assumes nothing.
use Rattle.bench.specs.declared.Link.{Link}
use Rattle.bench.specs.declared.ArrivalResult.{ArrivalResult}
use Rattle.bench.specs.declared.LentArrivalResult.{LentArrivalResult}
use Rattle.bench.specs.Bench.{reply_answer}
use Rattle.bench.specs.Preview.{PreviewEffect}
use Rattle.bench_stepping.specs.declared.PreviewResult.{PreviewResult}

-- what an arrival leaves where the link is lent
abbrev pub leaving : LentArrivalResult → Link → ArrivalResult
leaving a l = record { bench = a.bench; link = l; reply = a.reply }

-- what a preview gives
abbrev pub previewed_by : PreviewResult → PreviewEffect
previewed_by p = record { answer = reply_answer p.reply; bench = p.bench }
