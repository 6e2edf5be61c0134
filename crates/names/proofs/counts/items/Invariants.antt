use Prim.Native.Nat.{◌≤◌}
use Rattle.names.proofs.Items.{Counting}
use Rattle.names.proofs.counts.items.Given as goal

abbrev pub invariant-loop-n : goal.invariant-loop-n
invariant-loop-n l = (l.n ≤ l.most) × Counting l.cells l.step l.at l.most l.p l.n
