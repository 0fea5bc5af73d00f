use mathlib.Core.Path.{◌≡◌, refl, sym, ap, ◌∙◌}
use mathlib.Core.List.{List}
use Prim.Native.Nat.{ℕ}
use lib.Dec.{lit<}
use lib.ListN.{get_or}
use mir.Syntax.{w64}
use mir.Val.{Fits}
use Rattle.lanes_transpose.specs.Matrix.{transposed}
use Rattle.lanes_transpose.specs.inner.Stage.{Passed}
use Rattle.lanes_transpose.proofs.Laws.{transposed_twice}
use Rattle.lanes_transpose.proofs.Places.{placed_first, placed_next, placed_last}
use Rattle.lanes_transpose.proofs.Passes.{Swap, back_first, back_second}
use borrow.Author.Rules.{rules}
use Rattle.lanes_transpose.proofs.transpose.Goals as goal

s0 : Swap 0 0x5555555555555555
s0 = record { goes = (refl, refl); mask_fits = lit< tt; shifted_fits = lit< tt }

s1 : Swap 1 0x3333333333333333
s1 = record { goes = (refl, refl); mask_fits = lit< tt; shifted_fits = lit< tt }

s2 : Swap 2 0x0f0f0f0f0f0f0f0f
s2 = record { goes = (refl, refl); mask_fits = lit< tt; shifted_fits = lit< tt }

s3 : Swap 3 0x00ff00ff00ff00ff
s3 = record { goes = (refl, refl); mask_fits = lit< tt; shifted_fits = lit< tt }

s4 : Swap 4 0x0000ffff0000ffff
s4 = record { goes = (refl, refl); mask_fits = lit< tt; shifted_fits = lit< tt }

s5 : Swap 5 0x00000000ffffffff
s5 = record { goes = (refl, refl); mask_fits = lit< tt; shifted_fits = lit< tt }

-- a pass by stages whose shifts and masks are known
known : {s m s' m' t n t' n' : ℕ} (x y : List ℕ) → (s ≡ t) × (m ≡ n) → (s' ≡ t') × (m' ≡ n') → Passed 16 s m s' m' x y → Passed 16 t n t' n' x y
known x y e f p = rw (e.0, e.1, f.0, f.1) at p

pub returns : goal.returns
returns c =
    let x = c.args.rows in
    let z1 = c.pass-rows.result in
    let z2 = c.pass-rows-2.result in
    let z3 = c.pass.result in
    let q1 = known x z1 c.new.ensures c.new-2.ensures c.pass-rows.ensures in
    let q2 = known z1 z2 c.new-3.ensures c.new-4.ensures c.pass-rows-2.ensures in
    let q3 = known z2 z3 c.new-5.ensures c.new-6.ensures c.pass.ensures in
    let g0 : (j : ℕ) → Fits w64 (get_or x j 0) = λ j. search (rules, c.well_formed.0) in
    let g1 : (j : ℕ) → Fits w64 (get_or z1 j 0) = λ j. search (rules, c.pass-rows.type_inv) in
    let g2 : (j : ℕ) → Fits w64 (get_or z2 j 0) = λ j. search (rules, c.pass-rows-2.type_inv) in
    let g3 : (j : ℕ) → Fits w64 (get_or z3 j 0) = λ j. search (rules, c.pass.type_inv) in
    let p1 = placed_next 0 32 (placed_first z3) (back_first 1 0 _ _ s1 s0 z2 z3 (λ j. (g2 j).fits) q3) (refl, refl) in
    let p2 = placed_next 1 16 p1 (back_second 1 0 _ _ s1 s0 z2 z3 (λ j. (g2 j).fits) q3) (refl, refl) in
    let p3 = placed_next 2 8 p2 (back_first 3 2 _ _ s3 s2 z1 z2 (λ j. (g1 j).fits) q2) (refl, refl) in
    let p4 = placed_next 3 4 p3 (back_second 3 2 _ _ s3 s2 z1 z2 (λ j. (g1 j).fits) q2) (refl, refl) in
    let p5 = placed_next 4 2 p4 (back_first 5 4 _ _ s5 s4 x z1 (λ j. (g0 j).fits) q1) (refl, refl) in
    let p6 = placed_next 5 1 p5 (back_second 5 4 _ _ s5 s4 x z1 (λ j. (g0 j).fits) q1) (refl, refl) in
    let e : x ≡ transposed z3 = placed_last p6 (search (rules, c.pass.type_inv)) (search (rules, c.well_formed.0)) (λ j h. (g0 j).fits) in
    sym (transposed_twice z3 (search (rules, c.pass.type_inv)) (λ j h. (g3 j).fits)) ∙ ap transposed (sym e)
