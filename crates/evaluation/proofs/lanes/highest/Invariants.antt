use Prim.Native.Nat.{ℕ, ◌-◌, ◌*◌, ◌≤◌, ◌<◌}
use mathlib.Core.Path.{◌≡◌}
use Rattle.evaluation.specs.Rows.{lane}
use Rattle.evaluation.proofs.lanes.highest.Given as goal

abbrev pub invariant-loop-i : goal.invariant-loop-i
invariant-loop-i l = (l.i ≤ 128) × ((l.x ≡ l.t * 128) × ((k : ℕ) → k < l.i → lane l.rows l.t k ≤ l.m))
