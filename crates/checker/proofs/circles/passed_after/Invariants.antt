use Prim.Native.Nat.{◌≤◌}
use Rattle.checker.proofs.Rounds.{PassedSoFar}
use Rattle.checker.proofs.circles.passed_after.Given as goal

abbrev pub invariant-loop : goal.invariant-loop
invariant-loop l = (l.counter ≤ l.procs) × PassedSoFar l.sets l.procs l.counter l.passed
