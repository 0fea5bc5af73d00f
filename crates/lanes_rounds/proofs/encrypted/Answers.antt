use mathlib.Core.Path.{refl}
use Prim.Native.Nat.{ℕ}
use borrow.Author.Rules.{rules}
use lib.ListN.{get_or}
use mir.Syntax.{w64}
use mir.Val.{Fits}
use Rattle.lanes_rounds.specs.Words.{width_row}
use Rattle.lanes_rounds.proofs.AllRounds.{width_sound, all_run}
use Rattle.lanes_rounds.proofs.encrypted.Goals as goal

pub returns : goal.returns
returns c =
    let a = c.args in
    let r = c.at_width in
    let k = r.ensures in
    let g : (i : ℕ) → Fits w64 (get_or r.result i 0) = λ i. search (rules, r.type_inv) in
    all_run a.n (width_row a.n) refl (width_sound a.n) k.irs a.keys.now a.words.now r.result k.a₀ k.b₀ k.a k.b k.rule (search (rules, r.type_inv)) (λ i. (g i).fits) k.clear k.placed k.all k.stands
