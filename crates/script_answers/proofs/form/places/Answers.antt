use Prim.Native.Nat.{◌^◌, ◌<◌, ◌≤◌, suc}
use mathlib.Core.Path.{sym}
use native.Mathlib.Nat.{pow-suc}
use native.Mathlib.Omega.{arith}
use Rattle.script_form.proofs.Lengths.{ten, place_is}
use Rattle.script_answers.proofs.form.places.Goals as goal

pub returns : goal.returns
returns c =
    let k = c.ilog10.result in
    let n = c.args.value in
    let low : 0 < k → 10 ^ k ≤ n = λ h. omega (arith, ten 1 k h, c.ilog10.ensures.power_le, c.max.ensures) in
    let high : n < 10 ^ suc k = omega (arith, pow-suc 10 k, c.ilog10.ensures.next_power_gt, c.max.ensures) in
    (sym (place_is 19 k n (omega arith) low high), omega arith)
