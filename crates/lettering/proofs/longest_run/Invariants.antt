use mathlib.Core.Path.{◌≡◌}
use Prim.Native.Nat.{◌≤◌, max}
use lib.ListN.{drop}
use Rattle.pcrl.specs.Limits.{max_stream}
use Rattle.pcrl.specs.Letters.{longest_run}
use Rattle.lettering.specs.Named.{names_at}
use Rattle.lettering.proofs.longest_run.Given as goal

abbrev pub invariant-loop-i : goal.invariant-loop-i
invariant-loop-i l = (l.i ≤ l.n) × ((l.most ≤ max_stream) × (longest_run l.b (names_at l.s l.places l.n) ≡ max l.most (longest_run l.b (drop l.i (names_at l.s l.places l.n)))))
