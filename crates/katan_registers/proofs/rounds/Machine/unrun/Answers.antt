use mathlib.Core.Path.{◌≡◌, sym, ap, ap₂, subst, ◌∙◌}
use Prim.Native.Nat.{ℕ, ◌+◌, ◌-◌, ◌*◌, ◌/◌, ◌%◌}
use native.Mathlib.Nat.{mul-one}
use native.Mathlib.Omega.{arith}
use borrow.Author.Rules.{rules}
use Rattle.katan.specs.Key.{key_number}
use Rattle.katan.specs.Variant.{row_of}
use Rattle.katan.specs.Stride.{stride_of}
use Rattle.katan.specs.Clock.{unrun, input_of}
use Rattle.katan_keys.specs.Window.{source_at}
use Rattle.katan_registers.specs.inner.Moves.{MovesBack}
use Rattle.katan_registers.specs.declared.rounds.Running.{Running}
use Rattle.katan_registers.proofs.Laws.{in_parts_back}
use Rattle.katan_registers.proofs.rounds.Machine.unrun.Goals as goal

pub returns : goal.returns
returns g c =
    let a = c.args in
    let m = a.self.now in
    let v = m.variant in
    let key = key_number m.key in
    let s = c.stride-stride.result in
    let e : s ≡ stride_of (row_of v) = c.stride-stride.ensures ∙ ap stride_of m.its_row in
    let p = c.from-last.result in
    let n = c.from.result - p in
    let start : Running = record { registers = a.s; source = c.source_at.result } in
    let there : a.from.0 ≡ p + n = omega (arith, c.requires.0, c.from-last.ensures, c.from.ensures) in
    let h = c.unstrides-h.result in
    let t = c.back.result in
    let first : MovesBack v key (p + n % s) (n / s * s) start h
    = subst (λ (x : ℕ). MovesBack v key (p + n % s) (n / s * x) start h) (sym e) c.unstrides-h.ensures in
    let singles : MovesBack v key p (n % s * 1) h t = c.back.ensures v key (λ q t u r post. search rules) in
    let rest : MovesBack v key p (n % s) h t = subst (λ (x : ℕ). MovesBack v key p x h t) (mul-one (n % s)) singles in
    (in_parts_back v key s n start h t p first rest (c.source_at.ensures ∙ ap (source_at v key) there)).0
    ∙ ap₂ (λ (x y : ℕ). unrun (row_of v) (input_of v key) x (y - x) a.s) c.from-last.ensures c.from.ensures
