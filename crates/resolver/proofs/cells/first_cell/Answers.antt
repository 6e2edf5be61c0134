-- The number, the mark and the kind are added.
use native.Mathlib.Omega.{arith}
use Rattle.nodes.specs.Layout.{one_if}
use Rattle.resolver.proofs.cells.first_cell.Goals as goal

pub returns-then-after : goal.returns-then-after
unfolding one_if
returns-then-after c = rw c.if-after.true (let z = c.short.ensures (omega arith) in omega arith)

pub returns-else-after : goal.returns-else-after
unfolding one_if
returns-else-after c = rw c.if-after.false (let z = c.short-else-after.ensures (omega arith) in omega arith)
