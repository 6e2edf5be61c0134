use Prim.Native.Nat.{◌+◌, ◌*◌, ◌≤◌, ◌<◌, ◌^◌}
use mathlib.Core.Path.{◌≡◌}
use lib.ListN.{length, take}
use Rattle.pcrl.specs.Limits.{frame_width}
use Rattle.laws.specs.TermLength.{max_term}
use Rattle.following.proofs.MarkedLaws.{Left}
use Rattle.following.proofs.put_marked.Given as goal

abbrev pub invariant-loop-rest : goal.invariant-loop-rest
invariant-loop-rest l = ((l.at ≤ l.n) × (l.w ≤ l.v) × (l.v ≤ l.w + max_term * l.k) × (l.k ≤ frame_width) × (l.rest < 2 ^ 32) × (length l.out ≡ length l.initial.out)) × (take l.w l.out ≡ take l.w l.initial.out) × Left l.m l.slots l.n l.w l.initial.out l.rest l.at l.k l.v l.out

abbrev pub decreases-loop-rest : goal.decreases-loop-rest
decreases-loop-rest l = l.rest
