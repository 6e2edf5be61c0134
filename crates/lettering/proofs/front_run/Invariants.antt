use mathlib.Core.Path.{◌≡◌}
use Prim.Native.Nat.{◌+◌}
use lib.Dec.{eqb}
use lib.ListN.{drop}
use Rattle.pcrl.specs.Tokens.{run}
use Rattle.lettering.proofs.front_run.Given as goal

abbrev pub invariant-loop-i : goal.invariant-loop-i
invariant-loop-i l = run (eqb l.b) l.name ≡ l.i + run (eqb l.b) (drop l.i l.name)
