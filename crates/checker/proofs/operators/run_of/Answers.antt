-- `run_of`: what the operators of a run take stands behind it. Invariant: the terms taken so far stand at p, as many as left says.
use native.Mathlib.Omega.{arith}
use Rattle.checker.proofs.Runs.{run_start, run_step}
use Rattle.checker.proofs.operators.run_of.Goals as goal

pub loop-left-init : goal.loop-left-init
loop-left-init c = let args = c.args in (omega arith, omega arith, omega arith, run_start args.cells.now args.at args.count)

pub returns-then-p-cells : goal.returns-then-p-cells
returns-then-p-cells c = record { at_le_next = (omega arith, omega arith); bools_at = c.loop-left.invariant.3 }

pub returns-in_default : goal.returns-in_default
returns-in_default c = record { at_le_next = (omega arith, omega arith); bools_at = c.loop-left.invariant.3 }

pub loop-left-preserved : goal.loop-left-preserved
loop-left-preserved c =
    let args = c.args in
    let here = c.loop-left in
    let d = c.data_at-d in
    let t = c.in-Some in
    let few = t.ensures.upper_bound in
    (omega arith, omega arith, omega arith, run_step args.cells.now args.at args.count here.p here.left here.invariant.3 (omega arith) d.result d.ensures.data_views t.takes t.ensures.takes_bools few.0)

pub returns : goal.returns
returns c = record { at_le_next = (omega arith, omega arith); bools_at = c.loop-left.invariant.3 }
