use mathlib.Core.Path.{◌≡◌, sym, ap, ◌∙◌}
use Prim.Native.Nat.{ℕ, ◌+◌, ◌-◌, ◌*◌, ◌/◌, ◌<◌}
use native.Mathlib.Omega.{arith}
use Rattle.std.specs.Int.{div_ceil}
use Rattle.std.proofs.lemmas.Grind.{div_ceil_times}
use Rattle.std.proofs.lemmas.Nat.{div-mul-add}
use Rattle.lanes_keystream.proofs.block_count.Goals as goal

-- a quotient rounded up is that of the number with one less than the divisor more
rounded : (a b : ℕ) → 0 < b → div_ceil a b ≡ (a + (b - 1)) / b
rounded a b p =
    let t = div_ceil_times a b p in
    let q = div_ceil a b in
    let r = a + (b - 1) - q * b in
    let e : q * b + r ≡ a + (b - 1) = omega (arith, t.0, t.1) in
    let l : r < b = omega (arith, t.0, t.1) in
    sym (div-mul-add q b r l) ∙ ap (λ (n : ℕ). n / b) e

pub returns : goal.returns
returns c = c.div_ceil.ensures ∙ rounded c.args.length c.args.size (omega arith)
