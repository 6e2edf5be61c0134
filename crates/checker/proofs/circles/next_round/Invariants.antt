use Prim.Native.Nat.{◌≤◌}
use Rattle.checker.proofs.Rounds.{RoundSoFar}
use Rattle.checker.proofs.circles.next_round.Given as goal

abbrev pub invariant-loop-k : goal.invariant-loop-k
invariant-loop-k l = (l.k ≤ l.procs) × RoundSoFar l.sets l.procs l.passed l.k l.r
