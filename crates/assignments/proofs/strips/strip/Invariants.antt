use Prim.Native.Nat.{◌+◌, ◌-◌, ◌*◌, ◌≤◌, ◌<◌}
use mathlib.Core.Path.{◌≡◌}
use lib.ListN.{length}
use Rattle.assignments.specs.Lanes.{Strip}
use Rattle.assignments.proofs.strips.strip.Given as goal

abbrev pub invariant-loop-i : goal.invariant-loop-i
invariant-loop-i l = ((l.i ≤ l.n) × ((l.first ≤ l.x) × ((l.x ≤ l.first + l.i) × (l.y < l.size)))) × ((l.i ≡ (l.x - l.first) * l.size + l.y) × (((length l.slow ≡ length l.initial.slow) × ((length l.fast ≡ length l.initial.fast) × (length l.met ≡ length l.initial.met))) × Strip l.size l.first l.i l.slow l.fast l.met))
