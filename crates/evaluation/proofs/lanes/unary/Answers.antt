-- Where all values of the row are the same, one is looked up.
use native.Mathlib.Omega.{arith}
use Prim.Native.Nat.{ℕ, ◌+◌, ◌*◌}
use mathlib.Core.Path.{◌≡◌, refl, sym, ap, ◌∙◌}
use lib.ListN.{get_or}
use Rattle.evaluation.proofs.LaneLaws.{put_fewer, put_as, mark_put}
use Rattle.evaluation.proofs.lanes.unary.Goals as goal

pub returns-then-marks-t-eq0 : goal.returns-then-marks-t-eq0
returns-then-marks-t-eq0 c = λ w. let a = c.args in let p = put_fewer a.n 128 a.rows.now a.d _ _ (omega arith) c.fill.ensures in let z : a.t * 128 ≡ a.t * 128 + 0 = omega arith in
    (put_as a.n a.rows.now a.d _ _ _ (λ i k. c.peek.ensures ∙ ap (λ (y : ℕ). get_or a.s.now (a.q + y) 0) (c.wide.ensures.0 ∙ ap (λ (x : ℕ). get_or a.rows.now x 0) z ∙ sym (w a.t (omega arith) c.if-marks-t-eq0.true i (omega arith)))) p, mark_put 128 a.rows.now a.marks.now a.d _ _ 0 (omega arith) (omega arith) (λ e. (omega arith, λ i. refl)) c.fill.ensures w)

pub one_inside-requires : goal.one_inside-requires
one_inside-requires c = (λ i h. omega (arith, c.highest.ensures i h, c.wide-2.ensures.0), (omega arith, (omega arith, (omega arith, (omega arith, omega arith)))))

pub returns-then-q-wide : goal.returns-then-q-wide
returns-then-q-wide c = λ w. let a = c.args in let p = c.one_inside.ensures in (p, mark_put a.n a.rows.now a.marks.now a.d _ _ 1 (omega arith) (omega arith) (λ e. absurd (omega arith)) p w)

pub returns : goal.returns
returns c = λ w. let a = c.args in let p = c.one.ensures in (p, mark_put a.n a.rows.now a.marks.now a.d _ _ 1 (omega arith) (omega arith) (λ e. absurd (omega arith)) p w)
