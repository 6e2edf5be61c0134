use Prim.Native.Nat.{◌≤◌}
use Rattle.checker.proofs.FunctionValues.{CompleteSoFar}
use Rattle.checker.proofs.functions.functions_complete.Given as goal

abbrev pub invariant-loop-f : goal.invariant-loop-f
invariant-loop-f l = (l.f ≤ l.n.funcs) × CompleteSoFar l.funcs l.values l.places l.sizes l.n l.f
