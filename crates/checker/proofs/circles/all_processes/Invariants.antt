use Prim.Native.Nat.{◌≤◌}
use Rattle.checker.specs.Circles.{SetOf, numbers_below}
use Rattle.checker.proofs.circles.all_processes.Given as goal

abbrev pub invariant-loop-k : goal.invariant-loop-k
invariant-loop-k l = (l.k ≤ l.procs) × SetOf l.r (numbers_below l.k)
