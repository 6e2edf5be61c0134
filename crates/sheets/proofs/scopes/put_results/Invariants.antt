use mathlib.Core.Path.{◌≡◌}
use Prim.Native.Nat.{◌-◌, ◌≤◌}
use lib.ListN.{length}
use Rattle.sheets.proofs.ScopeLaws.{ResultsSoFar}
use Rattle.sheets.proofs.scopes.put_results.Given as goal

abbrev pub invariant-loop-f : goal.invariant-loop-f
invariant-loop-f l = ((l.f ≤ 16) × (length l.scope ≡ length l.initial.scope)) × ResultsSoFar l.funcs l.initial.scope l.f l.scope
