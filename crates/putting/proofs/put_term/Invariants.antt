use Prim.Native.Nat.{◌+◌, ◌-◌, ◌≤◌}
use mathlib.Core.Path.{◌≡◌}
use lib.ListN.{length, take}
use Rattle.pcrl.specs.Limits.{max_nodes}
use Rattle.nodes.specs.Layout.{cell_limit}
use Rattle.laws.specs.TermLength.{max_term}
use Rattle.putting.proofs.PutLaws.{PutLeft}
use Rattle.putting.proofs.put_term.Given as goal

abbrev pub invariant-loop-need : goal.invariant-loop-need
invariant-loop-need l = ((l.at ≤ l.p) × (l.k ≤ max_nodes) × (l.need + l.k ≤ max_nodes + cell_limit) × (l.w ≤ l.v) × (l.v ≤ l.w + max_term) × (length l.out ≡ length l.initial.out)) × (take l.w l.out ≡ take l.w l.initial.out) × PutLeft l.cells l.at l.slots l.n l.w l.initial.out l.p l.need l.k l.v l.out

abbrev pub decreases-loop-need : goal.decreases-loop-need
decreases-loop-need l = length l.cells - l.p
