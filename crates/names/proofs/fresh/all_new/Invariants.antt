use mathlib.Core.Path.{◌≡◌}
use mathlib.Core.List.{◌∷◌}
use Prim.Native.Nat.{◌-◌}
use lib.ListN.{drop}
use Rattle.pcrl.specs.Text.{bytes}
use Rattle.pcrl.specs.Tests.{distinct}
use Rattle.names.specs.NameCells.{scope_at}
use Rattle.names.specs.NameList.{names_in}
use Rattle.names.proofs.fresh.all_new.Given as goal

abbrev pub invariant-loop-i : goal.invariant-loop-i
invariant-loop-i l = distinct (bytes "Bool" ∷ scope_at l.s (names_in l.declared) l.n) ≡ distinct (bytes "Bool" ∷ drop l.i (scope_at l.s (names_in l.declared) l.n))
