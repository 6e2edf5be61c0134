use Prim.Native.Nat.{◌+◌, ◌*◌, ◌≤◌}
use mathlib.Core.Path.{◌≡◌}
use lib.ListN.{length, take}
use Rattle.laws.specs.TermLength.{max_term}
use Rattle.putting.proofs.Several.{AllLeft}
use Rattle.putting.proofs.put_terms.Given as goal

abbrev pub invariant-loop : goal.invariant-loop
invariant-loop l = ((l.counter ≤ l.count) × (l.w ≤ l.v) × (l.v ≤ l.w + max_term * l.counter) × (length l.out ≡ length l.initial.out)) × (take l.w l.out ≡ take l.w l.initial.out) × AllLeft l.cells l.at l.count l.slots l.n l.w l.initial.out l.p l.counter l.v l.out
