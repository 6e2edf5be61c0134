use Prim.Native.Nat.{◌-◌, ◌≤◌}
use mathlib.Core.Path.{◌≡◌}
use lib.ListN.{length, drop, take}
use Rattle.evaluation.specs.Run.{peak, foot}
use Rattle.evaluation.proofs.variables.Given as goal

abbrev pub invariant-loop-i : goal.invariant-loop-i
invariant-loop-i l = (l.i ≤ length l.s) × ((l.i ≤ l.end) × (l.at ≤ l.end → l.end ≤ length l.s → (l.at ≤ l.i) × ((l.high ≡ peak (take (l.end - l.i) (drop l.i l.s))) × (l.low ≡ foot l.p (take (l.end - l.i) (drop l.i l.s))))))
