use Rattle.marking.specs.Marks.{HighBits}
use Prim.Native.Nat.{◌+◌, ◌-◌, ◌≤◌}
use lib.ListN.{length}
use Rattle.marking.proofs.MarkLaws.{MarkLeft}
use Rattle.marking.proofs.marks.Given as goal

abbrev pub invariant-loop-need : goal.invariant-loop-need
invariant-loop-need l = ((l.at ≤ l.p) × (l.need + l.at ≤ 1 + l.p)) × MarkLeft l.cells l.at l.n l.p l.need l.x × HighBits l.n 0 l.x

abbrev pub decreases-loop-need : goal.decreases-loop-need
decreases-loop-need l = length l.cells - l.p
