use mathlib.Core.List.{map}
use Prim.Native.Nat.{◌≤◌}
use lib.ListN.{length, take}
use Rattle.names.specs.NameCells.{name_cell}
use Rattle.names.proofs.Lists.{Copied}
use Rattle.names.proofs.fresh.gather.Given as goal

abbrev pub invariant-loop-i : goal.invariant-loop-i
invariant-loop-i l = (l.i ≤ length l.places) × Copied l.n l.i (map (name_cell l.cells) (take l.i l.places)) l.initial.names l.names
