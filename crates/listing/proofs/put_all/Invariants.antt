use mathlib.Core.Path.{◌≡◌}
use Prim.Native.Nat.{◌≤◌}
use lib.ListN.{length}
use Rattle.listing.proofs.Sums.{Written}
use Rattle.listing.proofs.put_all.Given as goal

abbrev pub invariant-loop-k : goal.invariant-loop-k
invariant-loop-k l = ((l.k ≤ l.total) × (l.v ≤ length l.out) × (length l.out ≡ length l.initial.out)) × Written l.procs l.cells l.starts l.counts l.firsts l.fn.n l.rows l.total l.fuel l.w l.initial.out l.k l.v l.out
