-- `all_below`: values below a size. Invariant: the values that are left stand at i, those before are below.
use native.Mathlib.Omega.{arith}
use Rattle.checker.proofs.FunctionValues.{below_start, below_done, below_failed, below_step}
use Rattle.checker.proofs.functions.all_below.Goals as goal

pub loop-i-init : goal.loop-i-init
loop-i-init c = below_start c.args.values.now c.args.from c.args.to c.args.size

pub returns-then-cell-size : goal.returns-then-cell-size
returns-then-cell-size c = below_failed c.args.values.now c.args.from c.args.to c.args.size c.loop-i.i c.loop-i.invariant (omega arith) (omega (arith, c.cell.ensures.0))

pub loop-i-preserved : goal.loop-i-preserved
loop-i-preserved c = below_step c.args.values.now c.args.from c.args.to c.args.size c.loop-i.i c.loop-i.invariant (omega arith) (omega (arith, c.cell.ensures.0))

pub returns : goal.returns
returns c = below_done c.args.values.now c.args.from c.args.to c.args.size c.loop-i.i c.loop-i.invariant (omega arith)
