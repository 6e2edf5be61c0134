use Prim.Native.Nat.{◌-◌, ◌≤◌, max}
use mathlib.Core.Path.{◌≡◌}
use lib.ListN.{length}
use Rattle.firing.proofs.Evaluating.{Valuing}
use Rattle.firing.proofs.terms_at.Given as goal

abbrev pub invariant-loop-i : goal.invariant-loop-i
invariant-loop-i l = (l.i ≤ l.n) × ((l.a ≤ max l.at (length l.s)) × ((length l.out ≡ length l.initial.out) × Valuing l.s l.funcs l.e l.at l.n l.initial.out l.out l.a l.i))
