use Prim.Native.Nat.{◌≤◌}
use Rattle.linear.specs.Within.{FewMarks}
use Rattle.linear.proofs.few_marks.Given as goal

abbrev pub invariant-loop-k : goal.invariant-loop-k
invariant-loop-k l = (l.k ≤ l.n) × FewMarks l.rows l.k
