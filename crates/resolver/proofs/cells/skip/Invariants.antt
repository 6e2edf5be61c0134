use Prim.Native.Nat.{◌+◌, ◌-◌, ◌*◌, ◌≤◌}
use lib.ListN.{length}
use Rattle.resolver.proofs.Items.{SkipLeft}
use Rattle.resolver.proofs.cells.skip.Given as goal

abbrev pub invariant-loop-need : goal.invariant-loop-need
invariant-loop-need l = ((l.at ≤ l.p) × (l.need ≤ 1 + 65535 * (l.p - l.at))) × SkipLeft l.raw l.at l.p l.need

abbrev pub decreases-loop-need : goal.decreases-loop-need
decreases-loop-need l = length l.raw - l.p
