use Rattle.std.proofs.Common.{refl}
use Rattle.driver_layout.specs.Layout.{lane_bytes}
use Rattle.driver_layout.proofs.put_lane.Goals as goal

pub returns-in-None : goal.returns-in-None
unfolding lane_bytes
returns-in-None c = rw c.in-None.is refl

pub returns-in-Some : goal.returns-in-Some
unfolding lane_bytes
returns-in-Some c = rw c.in-Some.is c.put_loaded.ensures
