use Prim.Native.Nat.{◌≤◌}
use Rattle.parts.specs.Sheets.{count_cut}
use Rattle.parts.proofs.SheetParts.{CountLeft}
use Rattle.parts.proofs.sheet_parts.count_equations.Given as goal

abbrev pub invariant-loop-k : goal.invariant-loop-k
invariant-loop-k l = (l.k ≤ l.fn.n.procs) × (l.total ≤ count_cut) × CountLeft l.procs l.cells l.starts l.fn.n l.k l.total
