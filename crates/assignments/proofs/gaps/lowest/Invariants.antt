use Prim.Native.Nat.{ℕ, ◌≤◌, ◌<◌}
use lib.ListN.{get_or}
use Rattle.evaluation.specs.Run.{foot}
use Rattle.assignments.specs.Conditions.{code}
use Rattle.assignments.specs.Parting.{Standing}
use Rattle.assignments.proofs.gaps.lowest.Given as goal

abbrev pub invariant-loop-i : goal.invariant-loop-i
invariant-loop-i l = (l.i ≤ l.c.count) × (((m : ℕ) → m < l.c.count → Standing l.s l.c.froms l.c.ends m) → (m : ℕ) → m < l.i → l.low ≤ foot l.p (code l.s (get_or l.c.froms m 0) (get_or l.c.ends m 0)))
