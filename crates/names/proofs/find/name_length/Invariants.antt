use mathlib.Core.Path.{◌≡◌}
use Prim.Native.Nat.{◌≤◌, ◌<◌}
use lib.ListN.{length}
use Rattle.names.proofs.Lengths.{LengthLeft}
use Rattle.names.proofs.find.name_length.Given as goal

abbrev pub invariant-loop-e : goal.invariant-loop-e
invariant-loop-e l = ((l.p ≤ l.e) × (length l.s < l.e → l.e ≡ l.p)) × LengthLeft l.s l.c l.p l.e
