use Prim.Native.Nat.{◌+◌, ◌-◌, ◌≤◌}
use lib.ListN.{length}
use Rattle.nodes.proofs.Nodes.{SkipLeft}
use Rattle.nodes.proofs.skip.Given as goal

abbrev pub invariant-loop-need : goal.invariant-loop-need
invariant-loop-need l = ((l.at ≤ l.p) × (l.need + l.at ≤ 1 + l.p) × (l.n + l.at ≤ l.p)) × SkipLeft l.cells l.at l.p l.need l.n

abbrev pub decreases-loop-need : goal.decreases-loop-need
decreases-loop-need l = length l.cells - l.p
