use Prim.Native.Nat.{◌-◌, ◌≤◌}
use Rattle.names.specs.Items.{item_names}
use Rattle.names.specs.Rows.{Kept, sorts_at}
use Rattle.names.proofs.SortRow.{RowGone}
use Rattle.names.proofs.rows.sort_row.Given as goal

abbrev pub invariant-loop-k : goal.invariant-loop-k
invariant-loop-k l = (l.k ≤ l.n) × Kept l.p l.initial.rows l.rows × RowGone (sorts_at l.s l.cells l.sorts) l.rows l.p (item_names l.s l.cells l.at l.n) l.k
