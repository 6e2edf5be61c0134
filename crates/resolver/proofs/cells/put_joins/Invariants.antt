use mathlib.Core.Path.{◌≡◌}
use Prim.Native.Nat.{◌≤◌}
use lib.ListN.{length}
use Rattle.resolver.specs.Writing.{Writes}
use Rattle.resolver.specs.Resolving.{joins}
use Rattle.resolver.proofs.cells.put_joins.Given as goal

abbrev pub invariant-loop : goal.invariant-loop
invariant-loop l = ((l.counter ≤ l.many) × (length l.out ≡ length l.initial.out)) × Writes (joins l.c l.counter) l.w l.initial.out l.v l.out
