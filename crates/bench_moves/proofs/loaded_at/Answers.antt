use Prim.Native.Nat.{ℕ}
use mathlib.Core.Path.{ap}
use Rattle.std.specs.Prelude.{◌≡◌}
use Rattle.katan.specs.Key.{key_number}
use Rattle.katan.specs.Machine.{registers_at}
use Rattle.bench.specs.Steps.{loaded_at}
use Rattle.bench_moves.proofs.Sound.{already, is_value}
use Rattle.bench_moves.proofs.loaded_at.Goals as goal

pub returns-then-from-p : goal.returns-then-from-p
returns-then-from-p c = already _ _ _ c.if-from-p.true

pub unwrap-x-requires : goal.unwrap-x-requires
unwrap-x-requires c =
    rw (is_value c.args.variant c.args.h c.requires.0 c.args.p.0 c.requires.1 c.registers_at.result c.registers_at.ensures)

pub returns : goal.returns
unfolding loaded_at
returns c =
    let a = c.args in
    let e = is_value a.variant a.h c.requires.0 a.p.0 c.requires.1 c.registers_at.result c.registers_at.ensures in
    let x : c.unwrap-x.result ≡ registers_at a.variant (key_number a.h.key) a.h.position.0 a.h.registers a.p.0 = cc in
    ap (λ (x : ℕ). record { key = a.h.key; position = a.p; registers = x }) x
