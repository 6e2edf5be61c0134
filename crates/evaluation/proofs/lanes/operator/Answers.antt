-- Lane by lane, what the operator is worth for what stood there.
use native.Mathlib.Omega.{arith}
use Prim.Native.Nat.{ℕ, ◌+◌, ◌-◌, ◌*◌}
use mathlib.Core.Path.{refl, ap, ap₂, ◌∙◌}
use lib.ListN.{length-set, get_or}
use Rattle.evaluation.specs.Run.{operator_code, operator_worth}
use Rattle.evaluation.specs.Rows.{lane}
use Rattle.evaluation.proofs.LaneLaws.{put_none, put_more, put_read, put_all}
use Rattle.evaluation.proofs.lanes.operator.Goals as goal

pub loop-i-init : goal.loop-i-init
loop-i-init c = (omega arith, ((omega arith, (omega arith, (omega arith, omega arith))), (refl, put_none _ _ _ _ _ (omega arith))))

pub operator_worth-requires : goal.operator_worth-requires
operator_worth-requires c = c.requires.0

pub loop-i-preserved : goal.loop-i-preserved
loop-i-preserved c = let a = c.args in let l = c.loop-i in let p = l.invariant.1.1.1 in let f : ℕ → ℕ = λ m. operator_worth (a.c - operator_code) (lane a.rows.now a.t m) (lane a.rows.now (a.t + 1) m) (lane a.rows.now (a.t + 2) m) in
    let u = put_read a.rows.now a.d f 0 l.i l.rows p a.t l.i (a.t * 128 + l.i) refl (omega arith) (omega arith) in
    let v = put_read a.rows.now a.d f 0 l.i l.rows p (a.t + 1) l.i (a.t * 128 + 128 + l.i) (omega arith) (omega arith) (omega arith) in
    let q = put_read a.rows.now a.d f 0 l.i l.rows p (a.t + 2) l.i (a.t * 128 + 128 + 128 + l.i) (omega arith) (omega arith) (omega arith) in
    let w = c.operator_worth.ensures ∙ ap (λ (y : ℕ). operator_worth (a.c - operator_code) y (get_or l.rows (a.t * 128 + 128 + l.i) 0) (get_or l.rows (a.t * 128 + 128 + 128 + l.i) 0)) u ∙ ap₂ (λ (y z : ℕ). operator_worth (a.c - operator_code) (lane a.rows.now a.t l.i) y z) v q in
    (omega arith, (l.invariant.1.0, (simp length-set l.invariant.1.1.0, put_more a.rows.now a.d f 0 l.i l.rows (a.d * 128 + l.i) c.operator_worth.result refl (omega arith) (omega arith) w p)))

pub shape_of-rows : goal.shape_of-rows
shape_of-rows c = c.loop-i.invariant.1.1.0

pub returns : goal.returns
returns c = let a = c.args in let l = c.loop-i in put_all 128 a.rows.now a.d _ l.i l.rows (omega arith) (omega arith) l.invariant.1.1.1
