use Prim.Native.Nat.{◌-◌, ◌*◌, ◌≤◌}
use mathlib.Core.Path.{◌≡◌}
use lib.ListN.{length}
use Rattle.evaluation.specs.Rows.{lane}
use Rattle.evaluation.proofs.LaneLaws.{Keeping}
use Rattle.evaluation.proofs.rows.keep.Given as goal

abbrev pub invariant-loop-i : goal.invariant-loop-i
invariant-loop-i l = (l.i ≤ l.n) × ((l.r ≡ l.t * 128) × ((length l.met ≡ length l.initial.met) × Keeping (lane l.rows l.t) l.wanted l.initial.met l.i l.met l.some))
