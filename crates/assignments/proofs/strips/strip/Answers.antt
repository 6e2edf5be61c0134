-- One lane more, in the same row or in the next one.
use native.Mathlib.Omega.{arith}
use Prim.Native.Nat.{ℕ, ◌-◌, ◌*◌}
use mathlib.Core.Path.{◌≡◌, refl, ap, subst}
use lib.ListN.{length-set}
use Rattle.assignments.specs.Lanes.{Strip}
use Rattle.assignments.proofs.InRows.{strip_none, strip_more, next_row}
use Rattle.assignments.proofs.strips.strip.Goals as goal
use Rattle.assignments.proofs.strips.strip.Goals.{then-y-size, else-y-size}

pub loop-i-init : goal.loop-i-init
loop-i-init c = ((omega arith, (omega arith, (omega arith, omega arith))), (let z : c.args.first - c.args.first ≡ 0 = omega arith in (let y : (c.args.first - c.args.first) * c.args.size ≡ 0 * c.args.size = ap (λ (m : ℕ). m * c.args.size) z in omega arith), ((refl, (refl, refl)), strip_none _ _ _ _ _)))

pub loop-i-preserved : goal.loop-i-preserved
loop-i-preserved c = let a = c.args in let l = c.loop-i in
    elim c.if-y-size.branch [
      | then-y-size w ↦ rw (w.x-is, w.y-is) ((omega arith, (omega arith, (omega arith, omega arith))), (omega arith, ((simp length-set l.invariant.1.1.0.0, (simp length-set l.invariant.1.1.0.1.0, simp length-set l.invariant.1.1.0.1.1)), strip_more a.size a.first l.i l.slow l.fast l.met l.x l.y (omega arith) (omega arith) (omega arith) (omega arith) (omega arith) l.invariant.1.0 l.invariant.1.1.1)))
      | else-y-size w ↦ rw (w.x-is, w.y-is) ((omega arith, (omega arith, (omega arith, omega arith))), (next_row a.size a.first l.i l.x l.y (omega arith) l.invariant.1.0 (omega arith), ((simp length-set l.invariant.1.1.0.0, (simp length-set l.invariant.1.1.0.1.0, simp length-set l.invariant.1.1.0.1.1)), strip_more a.size a.first l.i l.slow l.fast l.met l.x l.y (omega arith) (omega arith) (omega arith) (omega arith) (omega arith) l.invariant.1.0 l.invariant.1.1.1)))
    ]

pub shape_of-slow : goal.shape_of-slow
shape_of-slow c = c.loop-i.invariant.1.1.0.0

pub shape_of-fast : goal.shape_of-fast
shape_of-fast c = c.loop-i.invariant.1.1.0.1.0

pub shape_of-met : goal.shape_of-met
shape_of-met c = c.loop-i.invariant.1.1.0.1.1

pub returns : goal.returns
returns c = let a = c.args in let l = c.loop-i in let e : l.i ≡ a.n = omega arith in subst (λ (m : ℕ). Strip a.size a.first m l.slow l.fast l.met) e l.invariant.1.1.1
