use Prim.Native.Nat.{ℕ, ◌+◌, ◌-◌, ◌*◌, ◌≤◌}
use Rattle.katan.specs.Counter.{rounds}
use Rattle.katan_registers.specs.declared.rounds.Running.{Running}
use Rattle.katan_registers.specs.inner.Moves.{MovesBack}
use Rattle.katan_registers.proofs.rounds.back.Given as goal

abbrev pub invariant-loop-i : goal.invariant-loop-i
invariant-loop-i g l =
    (v key : ℕ) → ((p : ℕ) (t u : Running) → p + l.c ≤ rounds → goal.F-post g l.step p t u → MovesBack v key p l.c t u) → MovesBack v key (l.r + l.i * l.c) ((l.n - l.i) * l.c) l.fn.h l.t
