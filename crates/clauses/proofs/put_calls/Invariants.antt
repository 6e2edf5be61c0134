use Prim.Native.Nat.{◌+◌, ◌*◌, ◌≤◌}
use Rattle.pcrl.specs.Limits.{max_stream}
use Rattle.clauses.specs.Written.{Ends}
use Rattle.clauses.proofs.CallLaws.{Calling}
use Rattle.clauses.proofs.put_calls.Given as goal

abbrev pub invariant-loop-i : goal.invariant-loop-i
invariant-loop-i l = (l.i ≤ l.n) × ((l.r.from ≤ max_stream * 4 + 1 + l.i) × (Ends l.initial.out l.r.at l.out × Calling l.s l.funcs l.l l.params l.from l.n l.initial.out l.at l.out l.r.from l.r.at l.i))
