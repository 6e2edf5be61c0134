use Prim.Native.Nat.{◌+◌, ◌-◌, ◌*◌, ◌≤◌}
use mathlib.Core.Path.{◌≡◌}
use lib.ListN.{length}
use Rattle.pcrl.specs.Limits.{max_stream}
use Rattle.firing.proofs.Framing.{Framed}
use Rattle.firing.proofs.frames_at.Given as goal

abbrev pub invariant-loop-i : goal.invariant-loop-i
invariant-loop-i l = (l.i ≤ l.n) × ((l.a ≤ max_stream * 3 + l.i) × ((length l.made ≡ length l.initial.made) × Framed l.s l.funcs l.params l.e l.at l.n l.initial.made l.made l.a l.i))
