-- A level of which nothing is left is gone; the one below it says how many are left there.
use mathlib.Core.Path.{refl}
use native.Mathlib.Omega.{arith}
use Rattle.parts.proofs.AheadLaws.{rises_none, rises_up}
use Rattle.parts.proofs.right_side.rise.Goals as goal

pub loop-need-init : goal.loop-need-init
loop-need-init c = (omega arith, rises_none c.args.left.now c.args.base c.args.s)

pub loop-need-preserved : goal.loop-need-preserved
loop-need-preserved c =
    let a = c.args in
    let l = c.loop-need in
    (omega arith, rises_up a.left.now a.base a.s (record { at = a.s.at; level = l.level; need = l.need; count = a.s.count; w = a.s.w }) c.cell-need.result l.invariant.1 (omega arith) (omega arith) c.cell-need.ensures.0)

pub returns-after-loop-need : goal.returns-after-loop-need
returns-after-loop-need c = record { at_value = (refl, omega arith, refl, refl, λ z. omega arith); rises = c.loop-need.invariant.1 }

pub returns-then-level-base : goal.returns-then-level-base
returns-then-level-base c = record { at_value = (refl, omega arith, refl, refl, λ z. omega arith); rises = c.loop-need.invariant.1 }
