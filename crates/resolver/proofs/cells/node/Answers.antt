-- Three cells, one after another.
use Rattle.resolver.proofs.Writing.{writes_then, writes_cell}
use Rattle.resolver.proofs.cells.node.Goals as goal

pub returns : goal.returns
returns c = writes_then (writes_cell c.put-a.ensures) (writes_then (writes_cell c.put-b.ensures) (writes_cell c.put.ensures))
