use Prim.Native.Nat.{◌≤◌}
use mathlib.Core.Path.{◌≡◌}
use lib.ListN.{length}
use Rattle.checker.specs.Circles.{SetsAt}
use Rattle.checker.proofs.circles.head_sets.Given as goal

abbrev pub invariant-loop-k : goal.invariant-loop-k
invariant-loop-k l = ((l.k ≤ l.n) × (length l.sets ≡ 16)) × SetsAt l.cells l.starts l.k l.sets
