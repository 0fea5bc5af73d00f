use Rattle.std.proofs.Common.{◌≡◌, take}
use Rattle.katan_numbers.proofs.put_copy.Given as goal

abbrev pub invariant-loop-i : goal.invariant-loop-i
invariant-loop-i g l = take l.i l.out ≡ take l.i l.items
