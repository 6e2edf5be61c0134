use Prim.Native.Nat.{◌*◌}
use mathlib.Core.Path.{◌≡◌}
use lib.ListN.{length}
use Rattle.heads.specs.Memory.{entry_cells}
use Rattle.heads.proofs.Remembering.{Putting}
use Rattle.heads.proofs.remembered.put_entry.Given as goal

abbrev pub invariant-loop-j : goal.invariant-loop-j
invariant-loop-j l = (length l.l ≡ length l.initial.l) × (l.k ≡ entry_cells * l.i) × Putting l.initial.l l.l l.e l.i l.j
