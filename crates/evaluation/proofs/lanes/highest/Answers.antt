-- No lane that was looked at is higher.
use native.Mathlib.Omega.{arith}
use Prim.Native.Nat.{◌+◌, ◌*◌}
use mathlib.Core.Path.{refl}
use lib.ListN.{get_or}
use Rattle.evaluation.proofs.LaneLaws.{high_more}
use Rattle.evaluation.proofs.lanes.highest.Goals as goal

pub loop-i-init : goal.loop-i-init
loop-i-init c = (omega arith, (refl, λ k h. absurd (omega arith)))

pub loop-i-preserved : goal.loop-i-preserved
loop-i-preserved c = let a = c.args in let l = c.loop-i in (omega arith, (refl, high_more a.rows.now a.t l.i l.m (a.t * 128 + l.i) (get_or a.rows.now (a.t * 128 + l.i) 0) c.max-m.result refl refl (omega (arith, c.max-m.ensures)) (omega (arith, c.max-m.ensures)) l.invariant.1.1))

pub returns : goal.returns
returns c = λ i h. c.loop-i.invariant.1.1 i (omega arith)
