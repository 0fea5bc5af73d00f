use Rattle.std.proofs.Common.{◌≡◌, ◌-◌, ◌≤◌, ◌++◌, length, take}
use Rattle.katan.specs.Bit.{bytes_of}
use Rattle.katan_numbers.proofs.put_number.Given as goal

abbrev pub invariant-loop-byte : goal.invariant-loop-byte
invariant-loop-byte l = ((l.byte-index ≤ length l.out) × (length l.out ≡ length l.initial.out)) × (take l.byte-index l.out ++ bytes_of (length l.out - l.byte-index) l.rest ≡ bytes_of (length l.initial.out) l.x)
