-- Lane by lane; `some` is the highest of what is left.
use native.Mathlib.Omega.{arith}
use mathlib.Core.Path.{refl}
use lib.ListN.{length-set}
use Rattle.evaluation.specs.Rows.{lane}
use Rattle.evaluation.proofs.LaneLaws.{keep_none, keep_more, keep_all}
use Rattle.evaluation.proofs.rows.keep.Goals as goal

pub loop-i-init : goal.loop-i-init
loop-i-init c = (omega arith, (refl, (refl, keep_none _ _ _)))

pub loop-i-preserved : goal.loop-i-preserved
loop-i-preserved c = let a = c.args in let l = c.loop-i in (omega arith, (refl, (simp length-set l.invariant.1.1.0, keep_more (lane a.rows.now a.t) a.wanted a.met.now l.i l.met l.some c.same-m.result c.max-some.result (omega arith) c.same-m.ensures (omega (arith, c.max-some.ensures)) (omega (arith, c.max-some.ensures)) l.invariant.1.1.1)))

pub shape_of-met : goal.shape_of-met
shape_of-met c = c.loop-i.invariant.1.1.0

pub returns : goal.returns
returns c = let a = c.args in let l = c.loop-i in keep_all a.n (lane a.rows.now a.t) a.wanted a.met.now l.i l.met l.some _ (omega arith) (λ z. grind arith) l.invariant.1.1.1
