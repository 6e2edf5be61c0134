-- What is known of the first i conditions is known of one more.
use native.Mathlib.Omega.{arith}
use Prim.Native.Nat.{ℕ}
use mathlib.Core.Path.{◌≡◌, refl, subst, ◌∙◌}
use Rattle.evaluation.specs.Rows.{lane_env}
use Rattle.assignments.specs.Lanes.{inner, RowMet}
use Rattle.assignments.proofs.InRows.{met_start, met_more, lent_again}
use Rattle.assignments.proofs.strips.row_test.Goals as goal

pub loop-i-init : goal.loop-i-init
loop-i-init c = (omega arith, ((refl, (refl, refl)), λ r h k w z. (w, (z, λ o. met_start _ _ _ o))))

pub row_tried-requires : goal.row_tried-requires
row_tried-requires c = let a = c.args in let l = c.loop-i in (lent_again a.rows.now a.marks.now a.slow.now a.fast.now a.met.now _ _ _ _ _ l.invariant.1.0.0 l.invariant.1.0.1.0 refl refl l.invariant.1.0.1.1 c.requires.1.0, c.requires.1.1)

pub loop-i-preserved : goal.loop-i-preserved
loop-i-preserved c = let a = c.args in let l = c.loop-i in let k = c.row_tried in (
  omega arith,
  (
    (k.auto.rows ∙ l.invariant.1.0.0, (k.auto.marks ∙ l.invariant.1.0.1.0, k.auto.met ∙ l.invariant.1.0.1.1)),
    λ r h j w z.
        let o = r l.i (omega arith) in
        let q = l.invariant.1.1 r h j w z in
        let t = c.in_ok-some.ensures o.some_term o.inside h j q.0 q.1.0 in
        (t.0, (t.1.0, λ m. let y = q.1.1 m in met_more a.lanes (λ (x m : ℕ). inner a.s.now a.funcs.now a.c.now.froms a.c.now.ends a.c.now.blocks a.w (lane_env a.e.now a.u a.v a.slow.now a.fast.now x) m) l.i l.met _ l.some c.in_ok-some.some y (t.1.1 y.none))),
  ),
)

pub returns-in_err-some : goal.returns-in_err-some
returns-in_err-some c = let l = c.loop-i in rw c.from_residual.ensures (λ r h j w z.
    let o = r l.i (omega arith) in
    let q = l.invariant.1.1 r h j w z in
    let t = c.in_err-some.ensures o.some_term o.inside h j q.0 q.1.0 in
    (t.0, (t.1.0, λ m. tt)))

pub shape_of-rows : goal.shape_of-rows
shape_of-rows c = c.loop-i.invariant.1.0.0

pub shape_of-marks : goal.shape_of-marks
shape_of-marks c = c.loop-i.invariant.1.0.1.0

pub shape_of-met : goal.shape_of-met
shape_of-met c = c.loop-i.invariant.1.0.1.1

pub returns : goal.returns
returns c = λ r h j w z. let a = c.args in let l = c.loop-i in let e : l.i ≡ a.c.now.count = omega arith in let q = l.invariant.1.1 r h j w z in (q.0, (q.1.0, λ o. subst (λ (x : ℕ). RowMet a.lanes (λ (y : ℕ). inner a.s.now a.funcs.now a.c.now.froms a.c.now.ends a.c.now.blocks a.w (lane_env a.e.now a.u a.v a.slow.now a.fast.now y)) x l.met l.some) e (q.1.1 o)))
