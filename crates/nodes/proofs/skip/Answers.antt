-- `skip` passes a process term. Invariant: the terms that are left stand at p, as many as need says; new equations passed and left are all.
use native.Mathlib.Omega.{arith}
use Rattle.nodes.proofs.Nodes.{skip_start, skip_stuck, skip_done, skip_step}
use Rattle.nodes.proofs.skip.Goals as goal

pub loop-need-init : goal.loop-need-init
loop-need-init c = (omega arith, skip_start c.args.cells.now c.args.at)

pub returns-then-p-cells-clause-skips : goal.returns-then-p-cells-clause-skips
returns-then-p-cells-clause-skips c = skip_stuck c.args.cells.now c.args.at c.loop-need.p c.loop-need.need c.loop-need.n c.loop-need.invariant.1 (omega arith) (omega arith) (record { next = c.loop-need.p; own = c.loop-need.n })

pub loop-need-preserved : goal.loop-need-preserved
loop-need-preserved c = (omega arith, skip_step c.args.cells.now c.args.at c.loop-need.p c.loop-need.need c.loop-need.n c.loop-need.invariant.1 (omega arith) c.node_at-d.result c.node_at-d.ensures.views)

pub returns-clause-skips : goal.returns-clause-skips
returns-clause-skips c = skip_done c.args.cells.now c.args.at c.loop-need.p c.loop-need.need c.loop-need.n c.loop-need.invariant.1 (omega arith)
