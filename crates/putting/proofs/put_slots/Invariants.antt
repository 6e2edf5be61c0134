use Prim.Native.Nat.{◌≤◌}
use mathlib.Core.Path.{◌≡◌}
use lib.ListN.{length}
use Rattle.putting.proofs.Several.{SlotsLeft}
use Rattle.putting.proofs.put_slots.Given as goal

abbrev pub invariant-loop-j : goal.invariant-loop-j
invariant-loop-j l = ((l.j ≤ l.count) × (length l.out ≡ length l.initial.out)) × SlotsLeft l.cells l.at l.count l.slots l.n l.p l.j l.out
