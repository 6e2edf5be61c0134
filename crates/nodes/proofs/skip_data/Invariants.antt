use Prim.Native.Nat.{◌+◌, ◌-◌, ◌≤◌, ◌<◌}
use lib.ListN.{length}
use Rattle.nodes.proofs.Data.{DataLeft}
use Rattle.nodes.proofs.skip_data.Given as goal

abbrev pub invariant-loop-need : goal.invariant-loop-need
invariant-loop-need l = (l.at ≤ l.p) × (l.need < length l.cells + 65536) × DataLeft l.cells l.at l.n l.p l.need

abbrev pub decreases-loop-need : goal.decreases-loop-need
decreases-loop-need l = length l.cells - l.p
