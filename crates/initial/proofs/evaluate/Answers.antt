-- The symbols left to read make of the values found so far what all symbols make.
use mathlib.Core.Path.{refl, ◌∙◌}
use native.Mathlib.Omega.{arith}
use Rattle.initial.proofs.Stepping.{goes_start, goes_on, goes_end}
use Rattle.initial.proofs.evaluate.Goals as goal

pub loop-i-init : goal.loop-i-init
loop-i-init c = let a = c.args in (omega arith, omega arith, refl, goes_start a.sizes.now a.funcs.now a.values.now a.places.now a.cells.now a.at a.end)

pub loop-i-smaller : goal.loop-i-smaller
loop-i-smaller c = c.step-r.ensures.further.less

pub loop-i-preserved : goal.loop-i-preserved
loop-i-preserved c = let a = c.args in let l = c.loop-i in let s = c.step-r in let f = s.ensures.further in let k = s.auto.cells in (
  omega arith,
  omega arith,
  k ∙ l.invariant.2,
  goes_on a.sizes.now a.funcs.now a.values.now a.places.now a.cells.now a.at a.end l.i l.t l.cells s.result s.new.cells (omega arith) (omega arith) s.ensures.steps l.invariant.3,
)

pub shape_of-cells : goal.shape_of-cells
shape_of-cells c = c.loop-i.invariant.2

pub returns : goal.returns
returns c = let a = c.args in let l = c.loop-i in goes_end a.sizes.now a.funcs.now a.values.now a.places.now a.cells.now a.at a.end l.i l.t l.cells (omega arith) (omega arith) l.invariant.3
