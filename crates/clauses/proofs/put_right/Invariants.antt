use Prim.Native.Nat.{◌≤◌}
use Rattle.clauses.specs.Written.{Ends}
use Rattle.clauses.proofs.SummandLaws.{Joining}
use Rattle.clauses.proofs.put_right.Given as goal

abbrev pub invariant-loop-i : goal.invariant-loop-i
invariant-loop-i l = (l.i ≤ l.m) × ((l.from ≤ 65536) × (Ends l.initial.out l.p l.out × Joining l.s l.funcs l.acts l.params l.l l.row l.n l.initial.out l.at l.m l.out l.from l.p l.i))
