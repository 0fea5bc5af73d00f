-- Check 1 of the bench that a record is sent to.
-- Assumes nothing.
use mathlib.Core.Path.{◌≡◌, refl, sym, ap}
use mathlib.Core.Bool.{Bool, true, false}
use mathlib.Core.List.{List}
use Prim.Native.Nat.{ℕ}
use Rattle.katan.specs.Bit.{pick}
use Rattle.katan.specs.Checks.{Outcome, refused}
use Rattle.bench.specs.declared.Bench.{Bench}
use Rattle.bench.specs.declared.Link.{Link}
use Rattle.bench.specs.Calls.{Answer}
use Rattle.bench.specs.Checks.{Turn}
use Rattle.bench.specs.Bench.{held_check, bench_view, effect_as, arrive_of}
use Rattle.bench.proofs.Turns.{decided_1}

-- check 1 comes first in an arrival too
pub refused_1 : (b : Bench) (l : Link) (sent : List ℕ) → (held_check b).fault ≡ true → (arrive_of b l sent).answer ≡ refused 1
unfolding arrive_of bench_view effect_as
refused_1 b l sent e = ap (λ (o : Outcome Turn). (effect_as o b l sent).answer) (decided_1 (bench_view b l) sent e)

-- so an arrival finds it by itself
pub found_by_itself : (b : Bench) (l : Link) (sent : List ℕ) → pick (held_check b).fault (refused 1) (arrive_of b l sent).answer ≡ (arrive_of b l sent).answer
found_by_itself b l sent = go (held_check b).fault refl
  where
    go : (t : Bool) → (held_check b).fault ≡ t → ◌≡◌ {A = Answer} (pick t (refused 1) (arrive_of b l sent).answer) (arrive_of b l sent).answer
    go true e = sym (refused_1 b l sent e)
    go false e = refl
