use Prim.Native.Nat.{◌-◌}
use Rattle.checker.proofs.EveryFits.{EveryLeft}
use Rattle.checker.proofs.arguments.every_fits.Given as goal

abbrev pub invariant-loop-i : goal.invariant-loop-i
invariant-loop-i l = EveryLeft l.cells l.scope l.sizes l.funcs l.n l.initial.p l.count l.sort l.p (l.count - l.i)
