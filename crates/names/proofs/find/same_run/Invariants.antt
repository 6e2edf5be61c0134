use Prim.Native.Nat.{◌≤◌}
use Rattle.names.proofs.Lengths.{AgreeFrom}
use Rattle.names.proofs.find.same_run.Given as goal

abbrev pub invariant-loop-i : goal.invariant-loop-i
invariant-loop-i l = (l.i ≤ l.l) × AgreeFrom l.s l.p l.q l.l l.i
