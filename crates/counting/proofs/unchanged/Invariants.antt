use Prim.Native.Nat.{◌≤◌}
use Rattle.counting.specs.Counting.{SameIn}
use Rattle.counting.proofs.unchanged.Given as goal

abbrev pub invariant-loop-k : goal.invariant-loop-k
invariant-loop-k l = (l.k ≤ l.n) × SameIn l.t l.f l.same
