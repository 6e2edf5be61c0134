use Prim.Native.Nat.{◌-◌}
use lib.ListN.{length}
use Rattle.names.proofs.FuncLines.{Placed, FuncsGone}
use Rattle.names.proofs.rows.func_rows.Given as goal

abbrev pub invariant-loop-i : goal.invariant-loop-i
invariant-loop-i l = Placed l.initial.rows l.initial.values l.initial.places l.rows l.values l.places l.w l.i × FuncsGone l.s l.cells l.sorts l.lines l.rows l.values l.places l.w l.i
