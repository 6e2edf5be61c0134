use Prim.Native.Nat.{◌-◌}
use lib.ListN.{length}
use Rattle.heads.proofs.Reaching.{Reached}
use Rattle.heads.proofs.alternatives.reach.Given as goal

abbrev pub invariant-loop-q : goal.invariant-loop-q
invariant-loop-q l = Reached l.cells l.counts l.base l.heads l.at l.p l.d l.a l.own l.work

abbrev pub decreases-loop-q : goal.decreases-loop-q
decreases-loop-q l = length l.cells - l.p
