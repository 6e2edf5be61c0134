use Rattle.marking.specs.Marks.{HighBits}
use Prim.Native.Nat.{◌+◌, ◌-◌, ◌≤◌}
use lib.ListN.{length}
use Rattle.nodes.specs.Layout.{cell_limit}
use Rattle.marking.proofs.MarkLaws.{DataLeft}
use Rattle.marking.proofs.data_marks.Given as goal

abbrev pub invariant-loop-need : goal.invariant-loop-need
invariant-loop-need l = ((l.at ≤ l.p) × (l.need ≤ length l.cells + cell_limit)) × DataLeft l.cells l.at l.count l.n l.m l.p l.need l.x × HighBits l.n l.m l.x

abbrev pub decreases-loop-need : goal.decreases-loop-need
decreases-loop-need l = length l.cells - l.p
