use mathlib.Core.Path.{◌≡◌}
use Prim.Native.Nat.{◌≤◌}
use lib.ListN.{length}
use Rattle.parts.proofs.SheetParts.{LoadedTo}
use Rattle.parts.proofs.sheet_parts.load.Given as goal

abbrev pub invariant-loop-i : goal.invariant-loop-i
invariant-loop-i l = (l.i ≤ l.n) × (length l.sorts ≡ length l.initial.sorts) × LoadedTo l.procs l.p l.sorts l.i
