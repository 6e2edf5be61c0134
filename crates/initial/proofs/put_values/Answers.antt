-- The first i values are put, and the others stand at p.
use mathlib.Core.Path.{refl, ◌∙◌}
use native.Mathlib.Omega.{arith}
use Rattle.initial.proofs.Started.{values_start, values_none, values_go, values_no_room, values_end}
use Rattle.initial.proofs.put_values.Goals as goal

pub loop-i-init : goal.loop-i-init
loop-i-init c = let a = c.args in (omega arith, refl, values_start a.cells.now a.at a.n a.w a.out.now)

pub shape_of-out-then-p-cells : goal.shape_of-out-then-p-cells
shape_of-out-then-p-cells c = c.loop-i.invariant.1

pub returns-then-p-cells : goal.returns-then-p-cells
returns-then-p-cells c = let a = c.args in let l = c.loop-i in values_none a.cells.now a.at a.n a.w a.out.now l.i l.p l.v l.out (omega arith) (omega arith) l.invariant.2

pub returns-in_err-v : goal.returns-in_err-v
returns-in_err-v c = let a = c.args in let l = c.loop-i in rw c.from_residual.ensures (values_no_room a.cells.now a.at a.n a.w a.out.now l.i l.p l.v l.out c.low.result c.put.new.out (omega arith) c.in_err-v.ensures l.invariant.2)

pub loop-i-preserved : goal.loop-i-preserved
loop-i-preserved c = let a = c.args in let l = c.loop-i in let x = c.cell in let b = c.low in let u = c.in_ok-v in (
  omega arith,
  c.put.auto.out ∙ l.invariant.1,
  values_go a.cells.now a.at a.n a.w a.out.now l.i l.p l.v l.out x.result b.result u.v c.put.new.out (omega arith) (omega arith) x.ensures.0 b.ensures u.ensures l.invariant.2,
)

pub shape_of-out : goal.shape_of-out
shape_of-out c = c.loop-i.invariant.1

pub returns : goal.returns
returns c = let a = c.args in let l = c.loop-i in values_end a.cells.now a.at a.n a.w a.out.now l.i l.p l.v l.out (omega arith) l.invariant.2
