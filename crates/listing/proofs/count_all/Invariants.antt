use Prim.Native.Nat.{◌≤◌}
use Rattle.listing.specs.Listing.{count_cut}
use Rattle.listing.proofs.Sums.{Summed}
use Rattle.listing.proofs.count_all.Given as goal

abbrev pub invariant-loop-k : goal.invariant-loop-k
invariant-loop-k l = ((l.k ≤ l.total) × (l.sum ≤ count_cut)) × Summed l.procs l.cells l.starts l.counts l.firsts l.fn.n l.rows l.total l.fuel l.k l.sum
