use mathlib.Core.List.{map}
use Prim.Native.Nat.{◌-◌, ◌≤◌}
use Rattle.names.specs.NameCells.{byte_of}
use Rattle.names.specs.Items.{item_values}
use Rattle.names.proofs.Lists.{Copied}
use Rattle.names.proofs.rows.copy_values.Given as goal

abbrev pub invariant-loop-k : goal.invariant-loop-k
invariant-loop-k l = (l.k ≤ l.n) × Copied l.w l.k (map byte_of (item_values l.cells l.at l.k)) l.initial.values l.values
