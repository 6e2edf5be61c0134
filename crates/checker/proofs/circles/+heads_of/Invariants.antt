-- The terms that are left stand at p, as many as `need` says; the heads found and those of what is left are all.
-- The measure of the call of itself is what is left of the cells.
use Prim.Native.Nat.{◌+◌, ◌-◌, ◌≤◌}
use lib.ListN.{length}
use Rattle.checker.proofs.Heads.{HeadsLeft}
use Rattle.checker.proofs.circles.+heads_of.Given as goal

abbrev pub decreases-heads_of : goal.decreases-heads_of
decreases-heads_of l = length l.cells.now - l.at

abbrev pub invariant-loop-need : goal.invariant-loop-need
invariant-loop-need l = ((l.fn.at ≤ l.p) × (l.need + l.fn.at ≤ 1 + l.p)) × HeadsLeft l.cells l.fn.at l.p l.need l.set

abbrev pub decreases-loop-need : goal.decreases-loop-need
decreases-loop-need l = length l.cells - l.p
