-- The parts of the first k right sides are counted.
use native.Mathlib.Omega.{arith}
use Rattle.parts.proofs.SheetParts.{count_start, count_more, count_done}
use Rattle.parts.proofs.sheet_parts.count_equations.Goals as goal

pub loop-k-init : goal.loop-k-init
loop-k-init c = let a = c.args in let e = c.min-total.ensures in (omega arith, omega arith, count_start a.procs.now a.cells.now a.starts.now a.n c.min-total.result e)

pub loop-k-preserved : goal.loop-k-preserved
loop-k-preserved c =
    let a = c.args in let l = c.loop-k in let e = c.min-total-in-loop-k.ensures in
    (omega arith, omega arith, count_more a.procs.now a.cells.now a.starts.now a.n l.k l.total c.min-total-in-loop-k.result c.cell.result c.skip-s.result (omega arith) c.cell.ensures.0 c.skip-s.ensures.skips (omega arith) l.invariant.2)

pub returns : goal.returns
returns c = let a = c.args in let l = c.loop-k in count_done a.procs.now a.cells.now a.starts.now a.n l.k l.total (omega arith) l.invariant.2
