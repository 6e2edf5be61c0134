use Prim.Native.Nat.{◌+◌, ◌-◌, ◌*◌, ◌%◌, ◌≤◌}
use mathlib.Core.Path.{◌≡◌}
use lib.ListN.{length, get_or}
use Rattle.evaluation.specs.Rows.{lane, Putting}
use Rattle.evaluation.proofs.lanes.two_inside.Given as goal

abbrev pub invariant-loop-i : goal.invariant-loop-i
invariant-loop-i l = ((l.i ≤ 128) × (l.i % 16 ≡ 0)) × ((length l.rows ≡ length l.initial.rows) × Putting l.initial.rows l.d (λ m. get_or l.s (l.q + (lane l.initial.rows l.t m * l.width + lane l.initial.rows (l.t + 1) m)) 0) 0 l.i l.rows)
