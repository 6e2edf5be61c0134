use Prim.Native.Nat.{◌≤◌}
use Rattle.checker.proofs.EachFits.{EachLeft}
use Rattle.checker.proofs.arguments.each_fits.Given as goal

abbrev pub invariant-loop-i : goal.invariant-loop-i
invariant-loop-i l = (l.i ≤ l.count) × EachLeft l.cells l.scope l.sizes l.funcs l.n l.initial.p l.count l.row l.start l.p l.i
