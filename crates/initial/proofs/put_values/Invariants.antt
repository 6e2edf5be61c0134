use mathlib.Core.Path.{◌≡◌}
use Prim.Native.Nat.{◌-◌, ◌≤◌}
use lib.ListN.{length}
use Rattle.initial.proofs.Started.{ValuesLeft}
use Rattle.initial.proofs.put_values.Given as goal

abbrev pub invariant-loop-i : goal.invariant-loop-i
invariant-loop-i l = (l.i ≤ l.n) × (length l.out ≡ length l.initial.out) × ValuesLeft l.cells l.at l.n l.w l.initial.out l.i l.p l.v l.out
