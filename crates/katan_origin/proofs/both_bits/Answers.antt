use mathlib.Core.Path.{ap₂}
use Prim.Native.Nat.{◌+◌}
use Rattle.katan.specs.Key.{key_number}
use Rattle.katan_origin.specs.declared.ClockBits.{ClockBits}
use Rattle.katan_origin.specs.declared.chains.Traced.{Traced}
use Rattle.katan_origin.proofs.Places.{room_for_both}
use Rattle.katan_origin.proofs.both_bits.Goals as goal

pub overflow_add-result : goal.overflow_add-result
overflow_add-result c =
    let clock = c.args.clock in
    let s = clock.run.now in
    record { fits = rw (c.fa-a.ensures, c.fb-b.ensures) (room_for_both s.variant (key_number s.key) s.block clock.number.0 clock.early) }

abbrev together : Traced → Traced → ClockBits
together a b = record { fa = a.bit; fb = b.bit; looked_up = a.count + b.count }

pub returns : goal.returns
returns c = ap₂ together c.fa-a.ensures c.fb-b.ensures
