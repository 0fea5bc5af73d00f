use mathlib.Core.Path.{◌≡◌, sym, ap, ap₂, subst, ◌∙◌}
use Prim.Native.Nat.{ℕ, ◌+◌, ◌-◌, ◌*◌, ◌/◌, ◌%◌}
use native.Mathlib.Nat.{mul-one, div-add-mod'}
use native.Mathlib.Omega.{arith}
use borrow.Author.Rules.{rules}
use Rattle.katan.specs.Key.{key_number}
use Rattle.katan.specs.Variant.{row_of}
use Rattle.katan.specs.Stride.{stride_of}
use Rattle.katan.specs.Clock.{run, input_of}
use Rattle.katan_keys.specs.Window.{source_at}
use Rattle.katan_registers.specs.inner.Moves.{Moves}
use Rattle.katan_registers.specs.declared.rounds.Running.{Running}
use Rattle.katan_registers.proofs.Laws.{in_parts}
use Rattle.katan_registers.proofs.rounds.Machine.run.Goals as goal

pub returns : goal.returns
returns g c =
    let a = c.args in
    let m = a.self.now in
    let v = m.variant in
    let key = key_number m.key in
    let s = c.stride-stride.result in
    let e : s ≡ stride_of (row_of v) = c.stride-stride.ensures ∙ ap stride_of m.its_row in
    let p = c.from-first.result in
    let n = c.from.result - p in
    let start : Running = record { registers = a.s; source = c.source_at.result } in
    let h = c.strides-h.result in
    let t = c.forth-t.result in
    let first : Moves v key p (n / s * s) start h = subst (λ (x : ℕ). Moves v key p (n / s * x) start h) (sym e) c.strides-h.ensures in
    let place : p + (n - n % s) ≡ p + n - n % s = omega (arith, div-add-mod' n s) in
    let singles : Moves v key (p + (n - n % s)) (n % s * 1) h t = c.forth-t.ensures v key (λ q t u r post. search rules) in
    let rest : Moves v key (p + n - n % s) (n % s) h t
    = subst (λ (x : ℕ). Moves v key x (n % s) h t) place (subst (λ (x : ℕ). Moves v key (p + (n - n % s)) x h t) (mul-one (n % s)) singles) in
    (in_parts v key s n start h t p first rest (c.source_at.ensures ∙ ap (source_at v key) (sym c.from-first.ensures))).0
    ∙ ap₂ (λ (x y : ℕ). run (row_of v) (input_of v key) x (y - x) a.s) c.from-first.ensures c.from.ensures
