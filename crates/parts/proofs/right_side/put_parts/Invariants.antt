use mathlib.Core.Path.{◌≡◌}
use Prim.Native.Nat.{◌+◌, ◌-◌, ◌≤◌}
use lib.ListN.{length}
use Rattle.nodes.specs.Scoped.{max_scope}
use Rattle.parts.specs.Rows.{RowsKept}
use Rattle.parts.proofs.WalkLaws.{Walks}
use Rattle.parts.proofs.right_side.put_parts.Given as goal

abbrev pub invariant-loop-s : goal.invariant-loop-s
invariant-loop-s l = ((length l.left ≡ length l.initial.left) × (length l.sorts ≡ length l.initial.sorts) × (length l.rows ≡ length l.initial.rows) × (length l.out ≡ length l.initial.out) × (l.s.level ≤ max_scope) × (l.k ≤ l.s.count) × (l.s.count + l.at ≤ l.k + l.s.at) × (l.s.need ≡ 0 → l.s.level ≤ l.base)) × RowsKept l.initial.rows l.k l.rows × Walks l.cells l.base l.initial.left l.initial.sorts l.initial.rows l.initial.out l.initial.s l.left l.sorts l.rows l.out l.s

abbrev pub decreases-loop-s : goal.decreases-loop-s
decreases-loop-s l = length l.cells - l.s.at
