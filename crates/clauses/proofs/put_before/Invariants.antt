use Prim.Native.Nat.{◌≤◌}
use Rattle.clauses.specs.Written.{Ends}
use Rattle.clauses.proofs.ConditionLaws.{Opening}
use Rattle.clauses.proofs.put_before.Given as goal

abbrev pub invariant-loop-i : goal.invariant-loop-i
invariant-loop-i l = (l.i ≤ l.n) × (Ends l.initial.out l.p l.out × Opening l.s l.funcs l.l l.froms l.n l.initial.out l.at l.out l.p l.i)
