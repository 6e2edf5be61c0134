-- `data_at` shows the first node of the data term whose cells stand there.
use native.Mathlib.Omega.{arith}
use Rattle.nodes.proofs.Data.{leaf_opened, function_opened}
use Rattle.nodes.proofs.data_at.Goals as goal

pub returns-then-k-eq-FUNCTION-clause-data_views : goal.returns-then-k-eq-FUNCTION-clause-data_views
returns-then-k-eq-FUNCTION-clause-data_views c = function_opened c.args.cells.now c.args.at c.cell-k.result c.cell-k.ensures.0 c.cell-n.result (omega arith) c.cell-n.ensures.0

pub returns-clause-data_views : goal.returns-clause-data_views
returns-clause-data_views c = leaf_opened c.args.cells.now c.args.at c.cell-k.result c.cell-k.ensures.0 (λ z. omega arith)
