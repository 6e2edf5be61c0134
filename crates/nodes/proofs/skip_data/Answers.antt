-- `skip_data` passes data terms. Invariant: the terms that are left stand at p, as many as need says.
use native.Mathlib.Omega.{arith}
use Rattle.nodes.proofs.Data.{data_stuck, data_many, data_done, data_step}
use Rattle.nodes.proofs.skip_data.Goals as goal

pub loop-need-init : goal.loop-need-init
loop-need-init c = (omega arith, omega arith, λ ds rest l e. (ds, l, e))

pub returns-then-p-cells-clause-skips_data : goal.returns-then-p-cells-clause-skips_data
returns-then-p-cells-clause-skips_data c = data_stuck c.args.cells.now c.args.at c.args.n c.loop-need.p c.loop-need.need c.loop-need.invariant.2 (omega arith) (omega arith) c.loop-need.p

pub returns-then-need-cells-clause-skips_data : goal.returns-then-need-cells-clause-skips_data
returns-then-need-cells-clause-skips_data c = data_many c.args.cells.now c.args.at c.args.n c.loop-need.p c.loop-need.need c.loop-need.invariant.2 (omega arith) (omega arith) c.loop-need.p

pub loop-need-preserved : goal.loop-need-preserved
loop-need-preserved c = (omega arith, omega arith, data_step c.args.cells.now c.args.at c.args.n c.loop-need.p c.loop-need.need c.loop-need.invariant.2 (omega arith) c.data_at-d.result c.data_at-d.ensures.data_views)

pub returns-clause-skips_data : goal.returns-clause-skips_data
returns-clause-skips_data c = data_done c.args.cells.now c.args.at c.args.n c.loop-need.p c.loop-need.need c.loop-need.invariant.2 (omega arith)
