use Prim.Native.Nat.{ℕ, ◌≤◌, ◌<◌}
use lib.ListN.{get_or}
use Rattle.pcrl.specs.Tests.{Every}
use Rattle.theory.specs.Distinct.{Unlike}
use Rattle.terms.specs.Stands.{list_at}
use Rattle.lettering.specs.Named.{names_at}
use Rattle.printer.proofs.unlike.none_there.Given as goal

abbrev pub invariant-loop-d : goal.invariant-loop-d
invariant-loop-d l = (l.d ≤ l.m) × ((k : ℕ) → k < l.d → Every (Unlike (list_at l.names (get_or l.cells k 0))) (names_at l.s l.places l.n))
