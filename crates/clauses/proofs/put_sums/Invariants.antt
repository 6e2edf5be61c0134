use Prim.Native.Nat.{◌≤◌}
use Rattle.clauses.specs.Written.{Ends}
use Rattle.clauses.proofs.SumLaws.{Summing}
use Rattle.clauses.proofs.put_sums.Given as goal

abbrev pub invariant-loop-i : goal.invariant-loop-i
invariant-loop-i l = (l.i ≤ l.m) × (Ends l.initial.out l.p l.out × Summing l.s l.l l.from l.n l.m l.initial.out l.at l.out l.p l.i)
