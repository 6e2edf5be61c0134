use Prim.Native.Nat.{ℕ, ◌-◌, ◌≤◌, ◌<◌}
use mathlib.Core.Path.{◌≡◌}
use lib.ListN.{length, get_or}
use Rattle.firing.proofs.first_values.Given as goal

abbrev pub invariant-loop-i : goal.invariant-loop-i
invariant-loop-i l = (l.i ≤ l.p) × ((length l.a ≡ 8) × (((j : ℕ) → j < l.i → get_or l.a j 0 ≡ get_or l.params j 0) × ((j : ℕ) → l.i ≤ j → get_or l.a j 0 ≡ 0)))
