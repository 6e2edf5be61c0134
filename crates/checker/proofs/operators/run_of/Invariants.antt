use Prim.Native.Nat.{◌-◌, ◌≤◌}
use lib.ListN.{length}
use Rattle.nodes.specs.Layout.{cell_limit}
use Rattle.checker.specs.Sorts.{BoolsAt}
use Rattle.checker.proofs.operators.run_of.Given as goal

abbrev pub invariant-loop-left : goal.invariant-loop-left
invariant-loop-left l = (l.at ≤ l.p) × (1 ≤ l.left) × (l.left ≤ cell_limit) × BoolsAt l.cells l.at l.count l.p l.left

abbrev pub decreases-loop-left : goal.decreases-loop-left
decreases-loop-left l = length l.cells - l.p
