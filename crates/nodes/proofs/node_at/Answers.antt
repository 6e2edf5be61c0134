-- `node_at` shows the first node of the process term whose cells stand there.
use Rattle.nodes.proofs.Nodes.{opened}
use Rattle.nodes.proofs.node_at.Goals as goal

pub returns-clause-views : goal.returns-clause-views
returns-clause-views c =
    let start = c.args in
    let next = c.behind_data in
    opened start.cells.now start.at next.result c.cell-k.result c.cell-n.result c.cell-k.ensures.0 c.cell-n.ensures.0 next.ensures.1 next.ensures.2
