use Prim.Native.Nat.{◌≤◌}
use Rattle.checker.proofs.Sheets.{RightSoFar}
use Rattle.checker.proofs.sorts.processes_right.Given as goal

abbrev pub invariant-loop-k : goal.invariant-loop-k
invariant-loop-k l = (l.k ≤ l.n.procs) × RightSoFar l.cells l.starts l.sizes l.funcs l.acts l.procs l.n l.k
