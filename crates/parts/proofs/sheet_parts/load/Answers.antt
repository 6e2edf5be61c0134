-- The first i sorts are there.
use mathlib.Core.Path.{refl, ◌∙◌}
use native.Mathlib.Omega.{arith}
use lib.ListN.{length-set}
use Rattle.parts.proofs.SheetParts.{loaded_more, load_done, load_far}
use Rattle.parts.proofs.sheet_parts.load.Goals as goal

pub returns-then-n-gt-MAX_SCOPE : goal.returns-then-n-gt-MAX_SCOPE
returns-then-n-gt-MAX_SCOPE c = let a = c.args in record { upper_bound = omega arith; loads = load_far a.procs.now a.p a.sorts.now c.cell-n.result c.cell-n.ensures.0 (omega arith) }

pub loop-i-init : goal.loop-i-init
loop-i-init c = (omega arith, refl, λ j h. absurd (omega arith))

pub overflow_add-p : goal.overflow_add-p
overflow_add-p c = omega (arith, c.requires)

pub overflow_add-p-in-loop-i : goal.overflow_add-p-in-loop-i
overflow_add-p-in-loop-i c = let b = c.cell-n.ensures in omega (arith, c.requires)

pub bounds-sorts-i : goal.bounds-sorts-i
bounds-sorts-i c = omega (arith, c.requires)

pub loop-i-preserved : goal.loop-i-preserved
loop-i-preserved c =
    let a = c.args in let l = c.loop-i in
    (omega arith, length-set l.sorts l.i c.peek.result ∙ l.invariant.1, loaded_more a.procs.now a.p l.sorts l.i c.peek.result (omega (arith, c.requires)) c.peek.ensures l.invariant.2)

pub shape_of-sorts : goal.shape_of-sorts
shape_of-sorts c = c.loop-i.invariant.1

pub returns : goal.returns
returns c = let a = c.args in let l = c.loop-i in record { upper_bound = omega arith; loads = load_done a.procs.now a.p l.sorts l.i c.cell-n.result c.cell-n.ensures.0 (omega arith) (omega (arith, c.requires)) l.invariant.2 }
