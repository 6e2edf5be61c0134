use Prim.Native.Nat.{◌-◌, ◌≤◌}
use Rattle.names.specs.NameCells.{name_at, scope_at}
use Rattle.names.proofs.Numbers.{Passed}
use Rattle.names.proofs.find.scope_number.Given as goal

abbrev pub invariant-loop-i : goal.invariant-loop-i
invariant-loop-i l = (l.i ≤ l.n) × Passed l.n (name_at l.s l.c) (scope_at l.s l.scope l.n) l.i
