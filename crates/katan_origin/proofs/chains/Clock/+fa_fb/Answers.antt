use mathlib.Core.Path.{◌≡◌, ◌∙◌}
use Prim.Native.Nat.{ℕ}
use native.Mathlib.Omega.{arith}
use Rattle.katan_origin.proofs.Places.{came_in, was_there, l1_at, l2_at, few1, few2, fa_is, fb_is, room}
use Rattle.katan_origin.proofs.chains.Clock.+fa_fb.Goals as goal
use Rattle.katan_origin.proofs.chains.Clock.+fa_fb.Goals.{fa-then-row-t, fa-else-row-t, fa-then-row-t-2, fa-else-row-t-2, fa-then-row-t-3, fa-else-row-t-3, fa-then-row-t-4, fa-else-row-t-4, fa-then-row-t-5, fa-else-row-t-5, fb-then-row-t, fb-else-row-t, fb-then-row-t-2, fb-else-row-t-2, fb-then-row-t-3, fb-else-row-t-3, fb-then-row-t-4, fb-else-row-t-4, fb-then-row-t-5, fb-else-row-t-5, fb-then-row-t-6, fb-else-row-t-6}

-- the bits at the places of fa, wherever each came from
fa-bits : (t : ℕ) (c : goal.fa-After-input t) → (c.if-row-t.x1 ≡ l1_at c.args.self c.args.self.run.now.row.x1) × (c.if-row-t-2.x2 ≡ l1_at c.args.self c.args.self.run.now.row.x2) × (c.if-row-t-3.x3 ≡ l1_at c.args.self c.args.self.run.now.row.x3) × (c.if-row-t-4.x4 ≡ l1_at c.args.self c.args.self.run.now.row.x4) × (c.if-row-t-5.x5 ≡ l1_at c.args.self c.args.self.run.now.row.x5)
fa-bits t c = (
  elim c.if-row-t.branch [
    | fa-then-row-t w ↦ came_in _ _ _ _ _ w.if-row-t.true (cc)
    | fa-else-row-t w ↦ was_there _ _ _ _ _ w.if-row-t.false (cc)
  ],
  elim c.if-row-t-2.branch [
    | fa-then-row-t-2 w ↦ came_in _ _ _ _ _ w.if-row-t-2.true (cc)
    | fa-else-row-t-2 w ↦ was_there _ _ _ _ _ w.if-row-t-2.false (cc)
  ],
  elim c.if-row-t-3.branch [
    | fa-then-row-t-3 w ↦ came_in _ _ _ _ _ w.if-row-t-3.true (cc)
    | fa-else-row-t-3 w ↦ was_there _ _ _ _ _ w.if-row-t-3.false (cc)
  ],
  elim c.if-row-t-4.branch [
    | fa-then-row-t-4 w ↦ came_in _ _ _ _ _ w.if-row-t-4.true (cc)
    | fa-else-row-t-4 w ↦ was_there _ _ _ _ _ w.if-row-t-4.false (cc)
  ],
  elim c.if-row-t-5.branch [
    | fa-then-row-t-5 w ↦ came_in _ _ _ _ _ w.if-row-t-5.true (cc)
    | fa-else-row-t-5 w ↦ was_there _ _ _ _ _ w.if-row-t-5.false (cc)
  ],
)

pub fa-fa_of-requires : goal.fa-fa_of-requires
fa-fa_of-requires t c =
    let few = few1 c.args.self in
    let bits = fa-bits t c in
    omega (arith, room c.args.self, few _ _ bits.0, few _ _ bits.1, few _ _ bits.2, few _ _ bits.3, few _ _ bits.4)

pub fa-returns : goal.fa-returns
fa-returns t c =
    let a = c.args.self in
    c.fa_of.ensures a.run.now.row (l1_at a) (fa-bits t c.before) ∙ fa_is a _ c.input.ensures

-- the bits at the places of fb, wherever each came from
fb-bits : (t : ℕ) (c : goal.fb-After-input t) → (c.if-row-t.y1 ≡ l2_at c.args.self c.args.self.run.now.row.y1) × (c.if-row-t-2.y2 ≡ l2_at c.args.self c.args.self.run.now.row.y2) × (c.if-row-t-3.y3 ≡ l2_at c.args.self c.args.self.run.now.row.y3) × (c.if-row-t-4.y4 ≡ l2_at c.args.self c.args.self.run.now.row.y4) × (c.if-row-t-5.y5 ≡ l2_at c.args.self c.args.self.run.now.row.y5) × (c.if-row-t-6.y6 ≡ l2_at c.args.self c.args.self.run.now.row.y6)
fb-bits t c = (
  elim c.if-row-t.branch [
    | fb-then-row-t w ↦ came_in _ _ _ _ _ w.if-row-t.true (cc)
    | fb-else-row-t w ↦ was_there _ _ _ _ _ w.if-row-t.false (cc)
  ],
  elim c.if-row-t-2.branch [
    | fb-then-row-t-2 w ↦ came_in _ _ _ _ _ w.if-row-t-2.true (cc)
    | fb-else-row-t-2 w ↦ was_there _ _ _ _ _ w.if-row-t-2.false (cc)
  ],
  elim c.if-row-t-3.branch [
    | fb-then-row-t-3 w ↦ came_in _ _ _ _ _ w.if-row-t-3.true (cc)
    | fb-else-row-t-3 w ↦ was_there _ _ _ _ _ w.if-row-t-3.false (cc)
  ],
  elim c.if-row-t-4.branch [
    | fb-then-row-t-4 w ↦ came_in _ _ _ _ _ w.if-row-t-4.true (cc)
    | fb-else-row-t-4 w ↦ was_there _ _ _ _ _ w.if-row-t-4.false (cc)
  ],
  elim c.if-row-t-5.branch [
    | fb-then-row-t-5 w ↦ came_in _ _ _ _ _ w.if-row-t-5.true (cc)
    | fb-else-row-t-5 w ↦ was_there _ _ _ _ _ w.if-row-t-5.false (cc)
  ],
  elim c.if-row-t-6.branch [
    | fb-then-row-t-6 w ↦ came_in _ _ _ _ _ w.if-row-t-6.true (cc)
    | fb-else-row-t-6 w ↦ was_there _ _ _ _ _ w.if-row-t-6.false (cc)
  ],
)

pub fb-fb_of-requires : goal.fb-fb_of-requires
fb-fb_of-requires t c =
    let few = few2 c.args.self in
    let bits = fb-bits t c in
    omega (arith, room c.args.self, few _ _ bits.0, few _ _ bits.1, few _ _ bits.2, few _ _ bits.3, few _ _ bits.4, few _ _ bits.5)

pub fb-returns : goal.fb-returns
fb-returns t c =
    let a = c.args.self in
    c.fb_of.ensures a.run.now.row (l2_at a) (fb-bits t c.before) ∙ fb_is a _ c.input.ensures
