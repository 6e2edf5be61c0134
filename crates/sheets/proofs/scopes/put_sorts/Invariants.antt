use mathlib.Core.Path.{◌≡◌}
use Prim.Native.Nat.{◌-◌, ◌≤◌}
use lib.ListN.{length}
use Rattle.sheets.proofs.ScopeLaws.{SortsSoFar}
use Rattle.sheets.proofs.scopes.put_sorts.Given as goal

abbrev pub invariant-loop-i : goal.invariant-loop-i
invariant-loop-i l = ((l.i ≤ l.n) × (length l.scope ≡ length l.initial.scope)) × SortsSoFar l.row l.initial.scope l.i l.scope
