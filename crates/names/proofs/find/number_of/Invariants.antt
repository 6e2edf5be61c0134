use Prim.Native.Nat.{◌-◌, ◌≤◌}
use Rattle.names.specs.NameCells.{name_at, names_at}
use Rattle.names.proofs.Numbers.{Passed}
use Rattle.names.proofs.find.number_of.Given as goal

abbrev pub invariant-loop-i : goal.invariant-loop-i
invariant-loop-i l = (l.i ≤ l.count) × Passed l.count (name_at l.s l.c) (names_at l.s l.cells l.places l.count) l.i
