-- Lane by lane, what the function is worth for what stood there.
use native.Mathlib.Omega.{arith}
use Prim.Native.Nat.{ℕ, ◌+◌, ◌*◌}
use mathlib.Core.Path.{refl, ap, ap₂, ◌∙◌}
use lib.ListN.{length-set, get_or}
use Rattle.evaluation.specs.Rows.{lane}
use Rattle.evaluation.proofs.LaneLaws.{put_none, put_more, put_read, put_all}
use Rattle.evaluation.proofs.lanes.two.Goals as goal

pub loop-i-init : goal.loop-i-init
loop-i-init c = (omega arith, ((omega arith, (omega arith, omega arith)), (refl, put_none _ _ _ _ _ (omega arith))))

pub overflow_add-q : goal.overflow_add-q
overflow_add-q c = omega (arith, c.row.ensures.1)

pub loop-i-preserved : goal.loop-i-preserved
loop-i-preserved c = let a = c.args in let l = c.loop-i in let p = l.invariant.1.1.1 in let f : ℕ → ℕ = λ n. get_or a.s.now (a.q + (lane a.rows.now a.t n * a.width + lane a.rows.now (a.t + 1) n)) 0 in
    let u = put_read a.rows.now a.d f 0 l.i l.rows p a.t l.i (a.t * 128 + l.i) refl (omega arith) (omega arith) in
    let v = put_read a.rows.now a.d f 0 l.i l.rows p (a.t + 1) l.i (a.t * 128 + 128 + l.i) (omega arith) (omega arith) (omega arith) in
    let w = c.peek.ensures ∙ ap (λ (y : ℕ). get_or a.s.now (a.q + y) 0) (c.row.ensures.0 ∙ ap₂ (λ (m n : ℕ). m * a.width + n) u v) in
    (omega arith, (l.invariant.1.0, (simp length-set l.invariant.1.1.0, put_more a.rows.now a.d f 0 l.i l.rows (a.d * 128 + l.i) c.peek.result refl (omega arith) (omega arith) w p)))

pub shape_of-rows : goal.shape_of-rows
shape_of-rows c = c.loop-i.invariant.1.1.0

pub returns : goal.returns
returns c = let a = c.args in let l = c.loop-i in put_all _ a.rows.now a.d _ l.i l.rows (omega arith) (omega arith) l.invariant.1.1.1
