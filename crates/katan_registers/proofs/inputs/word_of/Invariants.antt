use mathlib.Core.Path.{◌≡◌}
use Prim.Native.Nat.{ℕ, ◌+◌, ◌*◌, ◌^◌, ◌<◌}
use Rattle.katan.specs.Stride.{stride_of}
use Rattle.katan_clocks.specs.inner.Words.{beside}
use Rattle.katan_registers.proofs.inputs.word_of.Given as goal

abbrev pub invariant-loop-j : goal.invariant-loop-j
invariant-loop-j g l =
    ((f : ℕ → ℕ) → ((j x : ℕ) → j < stride_of g.W.Width.row → goal.F-post g l.bit j x → x ≡ f j) → l.word ≡ beside l.clocks f l.j) × (l.word < 2 ^ (8 + 4 * l.j))
