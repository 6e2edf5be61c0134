use Prim.Native.Nat.{◌+◌, ◌-◌}
use lib.ListN.{length}
use Rattle.names.proofs.Runs.{Alike}
use Rattle.names.proofs.find.same_name.Given as goal

abbrev pub invariant-loop-i : goal.invariant-loop-i
invariant-loop-i l = Alike l.s l.a l.b (l.p + l.i) (l.q + l.i)
