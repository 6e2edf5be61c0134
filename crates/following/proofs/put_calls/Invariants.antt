use Prim.Native.Nat.{◌+◌, ◌*◌, ◌-◌, ◌≤◌, ◌<◌}
use mathlib.Core.Path.{◌≡◌}
use lib.ListN.{length}
use Rattle.nodes.specs.Layout.{byte_limit}
use Rattle.following.specs.Follows.{call_bytes}
use Rattle.following.proofs.Parts.{Left}
use Rattle.following.proofs.put_calls.Given as goal

abbrev pub invariant-loop-need : goal.invariant-loop-need
invariant-loop-need l = ((l.at ≤ l.p) × (l.need + l.at ≤ 1 + l.p) × (l.k ≤ l.most) × (l.v ≤ call_bytes * l.k) × (l.e < byte_limit) × (length l.out ≡ length l.initial.out)) × Left l.cells l.at l.c l.slots l.n l.most l.initial.out l.p l.need l.k l.e l.v l.out

abbrev pub decreases-loop-need : goal.decreases-loop-need
decreases-loop-need l = 2 * (length l.cells - l.p) + l.need
