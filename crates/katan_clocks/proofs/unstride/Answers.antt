use mathlib.Core.Path.{◌≡◌, ap, ◌∙◌}
use Prim.Native.Nat.{ℕ, ◌+◌, ◌*◌, ◌≤◌}
use native.Mathlib.Omega.{arith}
use borrow.Author.Rules.{rules}
use Rattle.katan_clocks.specs.Clocks.{unclocks_by}
use Rattle.katan_clocks.specs.inner.Words.{without}
use Rattle.katan_clocks.proofs.Steps.{in_rounds, undone_in_three}
use Rattle.katan_clocks.proofs.unstride.Goals as goal

pub returns : goal.returns
returns g c =
    let a = c.args in
    let v = g.W.Width.row in
    let all = c.of_stride-all in
    let one = c.of_round-one in
    let n = one.result.count in
    let no : (all.result.count + all.result.row.x3 ≤ all.result.row.x1) × (all.result.count + all.result.row.y3 ≤ all.result.row.y1) → ⊥ = λ h. search rules in
    undone_in_three v _ one.ensures.row n a.w _ _ a.s _ _ _ c.without-second.ensures c.without-first.ensures c.go_back-2.ensures c.go_back-3.ensures c.go_back-4.ensures
    ∙ ap (λ (m : ℕ). unclocks_by v m a.w a.s) (ap (λ (m : ℕ). m + (m + m)) one.ensures.count ∙ in_rounds v g.W.Width.known _ _ all.ensures.row all.ensures.count no)
