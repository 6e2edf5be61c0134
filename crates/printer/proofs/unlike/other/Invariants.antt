use Prim.Native.Nat.{ℕ, ◌≤◌, ◌<◌}
use lib.ListN.{get_or}
use Rattle.theory.specs.Distinct.{Unlike}
use Rattle.terms.specs.Stands.{list_at}
use Rattle.printer.proofs.unlike.other.Given as goal

abbrev pub invariant-loop-i : goal.invariant-loop-i
invariant-loop-i l = (l.i ≤ l.n) × ((k : ℕ) → k < l.i → Unlike l.name (list_at l.s (get_or l.places k 0)))
