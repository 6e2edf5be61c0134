use Prim.Native.Nat.{◌-◌, ◌≤◌}
use mathlib.Core.Path.{◌≡◌}
use lib.ListN.{length}
use Rattle.firing.proofs.Rowing.{Rowing}
use Rattle.firing.proofs.fire_rows.Given as goal

abbrev pub invariant-loop-i : goal.invariant-loop-i
invariant-loop-i l = (l.i ≤ l.n) × ((l.at ≤ length l.s) × ((l.made ≡ l.initial.made) × Rowing l.s l.funcs l.acts l.params l.first.at l.p l.row l.k l.n l.at l.left l.i))
