use Prim.Native.Nat.{◌+◌, ◌-◌, ◌*◌, ◌≤◌}
use mathlib.Core.Path.{◌≡◌}
use lib.ListN.{length}
use Rattle.evaluation.specs.Run.{operator_code, operator_worth}
use Rattle.evaluation.specs.Rows.{lane, Putting}
use Rattle.evaluation.proofs.lanes.operator.Given as goal

abbrev pub invariant-loop-i : goal.invariant-loop-i
invariant-loop-i l = (l.i ≤ 128) × (((l.x ≡ l.t * 128) × ((l.y ≡ l.t * 128 + 128) × ((l.z ≡ l.t * 128 + 256) × (l.r ≡ l.d * 128)))) × ((length l.rows ≡ length l.initial.rows) × Putting l.initial.rows l.d (λ m. operator_worth (l.c - operator_code) (lane l.initial.rows l.t m) (lane l.initial.rows (l.t + 1) m) (lane l.initial.rows (l.t + 2) m)) 0 l.i l.rows))
