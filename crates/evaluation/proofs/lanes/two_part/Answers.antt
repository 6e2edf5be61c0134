-- The places lane by lane, and what stands there: all are in the stream.
use native.Mathlib.Omega.{arith}
use Prim.Native.Nat.{ℕ, ◌+◌, ◌*◌, ◌<◌}
use mathlib.Core.Path.{◌≡◌, refl, ap, ap₂, subst, ◌∙◌}
use lib.ListN.{length-set, get_or}
use Rattle.evaluation.specs.Rows.{lane, Putting}
use Rattle.evaluation.proofs.LaneLaws.{put_none, put_next, list_more}
use Rattle.evaluation.proofs.lanes.two_part.Goals as goal

pub loop-i-init : goal.loop-i-init
loop-i-init c = (omega arith, ((omega arith, (omega arith, omega arith)), (refl, λ m h. absurd (omega arith))))

pub overflow_cast-at : goal.overflow_cast-at
overflow_cast-at c = omega (arith, c.row.ensures.1)

pub loop-i-preserved : goal.loop-i-preserved
loop-i-preserved c = let a = c.args in let l = c.loop-i in
    let x : a.t * 128 + a.k + l.i ≡ a.t * 128 + (a.k + l.i) = omega arith in
    let y : a.t * 128 + a.k + 128 + l.i ≡ (a.t + 1) * 128 + (a.k + l.i) = omega arith in
    let e = c.row.ensures.0 ∙ ap₂ (λ (m n : ℕ). get_or a.rows.now m 0 * a.width + get_or a.rows.now n 0) x y in
    (omega arith, (l.invariant.1.0, (simp length-set l.invariant.1.1.0, list_more (λ (m v : ℕ). (v ≡ lane a.rows.now a.t (a.k + m) * a.width + lane a.rows.now (a.t + 1) (a.k + m)) × (v < 65536)) l.i l.at c.row.result (omega arith) (e, c.row.ensures.1) l.invariant.1.1.1)))

pub loop-j-init : goal.loop-j-init
loop-j-init c = let l = c.loop-i in (omega arith, (l.invariant.1.0, ((l.invariant.1.1.0, λ m h. l.invariant.1.1.1 m (omega arith)), (refl, put_none _ _ _ _ _ (omega arith)))))

pub overflow_cast-rows : goal.overflow_cast-rows
overflow_cast-rows c = let l = c.loop-j in omega (arith, (l.invariant.1.1.0.1 l.j (omega arith)).1)

pub overflow_add-rows : goal.overflow_add-rows
overflow_add-rows c = let l = c.loop-j in omega (arith, (l.invariant.1.1.0.1 l.j (omega arith)).1)

pub bounds-s-q : goal.bounds-s-q
bounds-s-q c = let a = c.args in let l = c.loop-j in let h = l.invariant.1.1.0.1 l.j (omega arith) in omega (arith, h.0, c.requires.0 (a.k + l.j) (omega arith) (omega arith))

pub loop-j-preserved : goal.loop-j-preserved
loop-j-preserved c = let a = c.args in let l = c.loop-j in let h = l.invariant.1.1.0.1 l.j (omega arith) in (omega arith, (l.invariant.1.0, (l.invariant.1.1.0, (simp length-set l.invariant.1.1.1.0, put_next a.rows.now a.d (λ (m : ℕ). get_or a.s.now (a.q + (lane a.rows.now a.t m * a.width + lane a.rows.now (a.t + 1) m)) 0) a.k l.j l.rows (a.d * 128 + a.k + l.j) _ (omega arith) (omega arith) (ap (λ (x : ℕ). get_or a.s.now (a.q + x) 0) h.0) l.invariant.1.1.1.1))))

pub shape_of-rows : goal.shape_of-rows
shape_of-rows c = c.loop-j.invariant.1.1.1.0

pub returns : goal.returns
returns c = let a = c.args in let l = c.loop-j in let z : a.k + l.j ≡ a.k + 16 = omega arith in subst (λ (m : ℕ). Putting a.rows.now a.d (λ (m : ℕ). get_or a.s.now (a.q + (lane a.rows.now a.t m * a.width + lane a.rows.now (a.t + 1) m)) 0) a.k m l.rows) z l.invariant.1.1.1.1
