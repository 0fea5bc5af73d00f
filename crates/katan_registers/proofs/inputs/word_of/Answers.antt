use mathlib.Core.Path.{◌≡◌, sym, ap, ap₂, subst, ◌∙◌}
use Prim.Native.Nat.{ℕ, ◌+◌, ◌-◌, ◌*◌, ◌%◌, ◌^◌, ◌<◌, ◌≤◌}
use native.Mathlib.Nat.{lt_of_lt_of_le}
use native.Mathlib.Numerals.{add-one}
use native.Mathlib.Omega.{arith}
use lib.Pow.{pow_mono}
use Rattle.katan.specs.Stride.{stride_of}
use Rattle.katan.specs.declared.Row.{Row}
use Rattle.katan_clocks.specs.inner.Words.{beside}
use Rattle.katan_registers.proofs.Laws.{stride_few, clocks_few, grows, shifted, next_fits, filled, filled_fits}
use Rattle.katan_registers.proofs.inputs.word_of.Goals as goal

pub overflow_add-word : goal.overflow_add-word
overflow_add-word g c =
    let l = c.loop-j in
    let k = c.row-clocks.result.clocks in
    let few : k ≤ 3 = clocks_few g.W.Width.row g.W.Width.known _ c.row-clocks.ensures in
    let inside : l.j < stride_of g.W.Width.row = rw c.stride-j-end.ensures at c.loop-j-test.true in
    let near : l.j ≤ 3 = omega (arith, inside, stride_few g.W.Width.row g.W.Width.known) in
    record { fits = next_fits k l.word l.j c.bit.result few l.invariant.1 (c.requires.small l.j c.bit.result inside c.bit.ensures) near }

pub loop-j-preserved : goal.loop-j-preserved
loop-j-preserved g c =
    let l = c.loop-j in
    let k = c.row-clocks.result.clocks in
    let x = c.bit.result in
    let few : k ≤ 3 = clocks_few g.W.Width.row g.W.Width.known _ c.row-clocks.ensures in
    let inside : l.j < stride_of g.W.Width.row = rw c.stride-j-end.ensures at c.loop-j-test.true in
    let near : l.j ≤ 3 = omega (arith, inside, stride_few g.W.Width.row g.W.Width.known) in
    let small = c.requires.small l.j x inside c.bit.ensures in
    let up : (l.word * 2 ^ k) % 2 ^ 64 ≡ l.word * 2 ^ k = shifted k l.word l.j x few l.invariant.1 small near in (
      λ f given. rw add-one (ap (◌+ x) up ∙ ap₂ (λ (a b : ℕ). a * 2 ^ k + b) (l.invariant.0 f given) (given l.j x inside c.bit.ensures)),
      subst (λ (a : ℕ). a + x < 2 ^ (8 + 4 * (l.j + 1))) (sym up) (grows k l.word l.j x few l.invariant.1 small),
    )

pub overflow_mul-result : goal.overflow_mul-result
overflow_mul-result g c =
    let l = c.loop-j in
    let k = c.row-clocks.result.clocks in
    let few : k ≤ 3 = clocks_few g.W.Width.row g.W.Width.known _ c.row-clocks.ensures in
    let end : l.j ≤ 4 = omega (arith, l.auto.j-end, c.stride-j-end.ensures, stride_few g.W.Width.row g.W.Width.known) in
    let small : l.word < 2 ^ 24 = lt_of_lt_of_le l.invariant.1 (pow_mono {i = 8 + 4 * l.j} {j = 24} (omega (arith, end))) in
    record { fits = filled_fits k l.word few small }

pub returns : goal.returns
returns g c =
    let l = c.loop-j in
    let v = g.W.Width.row in
    let k = c.row-clocks.result.clocks in
    let few : k ≤ 3 = clocks_few g.W.Width.row g.W.Width.known _ c.row-clocks.ensures in
    let end : l.j ≤ 4 = omega (arith, l.auto.j-end, c.stride-j-end.ensures, stride_few v g.W.Width.known) in
    let small : l.word < 2 ^ 24 = lt_of_lt_of_le l.invariant.1 (pow_mono {i = 8 + 4 * l.j} {j = 24} (omega (arith, end))) in
    let all : l.j ≡ stride_of v = omega (arith, l.auto.j-end, c.loop-j-test.false, c.stride-j-end.ensures) in
    let one : k ≡ v.clocks = ap (λ (r : Row). r.clocks) c.row-clocks.ensures in
    λ f given.
    filled k l.word few small
    ∙ ap (λ (a : ℕ). a * (2 ^ k - 1)) (l.invariant.0 f given)
    ∙ ap₂ (λ (m n : ℕ). beside m f n * (2 ^ m - 1)) one all
