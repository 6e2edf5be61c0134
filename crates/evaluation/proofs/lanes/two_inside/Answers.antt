-- Part by part.
use native.Mathlib.Omega.{arith}
use Prim.Native.Nat.{ℕ, ◌+◌, ◌*◌, ◌<◌}
use mathlib.Core.Path.{refl, sym, ap, subst, ◌∙◌}
use lib.ListN.{length, get_or}
use Rattle.evaluation.specs.Rows.{lane}
use Rattle.evaluation.proofs.LaneLaws.{put_none, same_pairs, put_join, put_all}
use Rattle.evaluation.proofs.lanes.two_inside.Goals as goal

pub loop-i-init : goal.loop-i-init
loop-i-init c = ((omega arith, refl), (refl, put_none _ _ _ _ _ (omega arith)))

pub two_part-requires : goal.two_part-requires
two_part-requires c = let a = c.args in let l = c.loop-i in let pre = c.requires in (
  λ m h k. subst (λ (x : ℕ). x < length a.s.now) (sym (same_pairs a.rows.now a.d _ 0 l.i l.rows l.invariant.1.1 a.q a.width a.t m h (omega arith))) (pre.0 m (omega arith)),
  (omega arith, (omega arith, (omega arith, (omega arith, omega arith)))),
)

pub loop-i-preserved : goal.loop-i-preserved
loop-i-preserved c = let a = c.args in let l = c.loop-i in (
  (omega arith, omega arith),
  (
    c.two_part.auto.rows ∙ l.invariant.1.0,
    put_join a.rows.now a.d (λ (m : ℕ). get_or a.s.now (a.q + (lane a.rows.now a.t m * a.width + lane a.rows.now (a.t + 1) m)) 0) (λ (m : ℕ). get_or a.s.now (a.q + (lane l.rows a.t m * a.width + lane l.rows (a.t + 1) m)) 0) l.i (l.i + 16) l.rows _ (omega arith) (λ m h k. ap (λ (x : ℕ). get_or a.s.now x 0) (same_pairs a.rows.now a.d _ 0 l.i l.rows l.invariant.1.1 a.q a.width a.t m h (omega arith))) l.invariant.1.1 c.two_part.ensures,
  ),
)

pub shape_of-rows : goal.shape_of-rows
shape_of-rows c = c.loop-i.invariant.1.0

pub returns : goal.returns
returns c = let a = c.args in let l = c.loop-i in put_all a.n a.rows.now a.d _ l.i l.rows (omega arith) (omega arith) l.invariant.1.1

pub shape_of-rows-2 : goal.shape_of-rows-2
shape_of-rows-2 c = c.two_part.auto.rows ∙ c.loop-i.invariant.1.0

pub returns-2 : goal.returns-2
returns-2 c = let a = c.args in let l = c.loop-i in put_all a.n a.rows.now a.d _ (l.i + 16) _ (omega arith) (omega arith) (put_join a.rows.now a.d (λ (m : ℕ). get_or a.s.now (a.q + (lane a.rows.now a.t m * a.width + lane a.rows.now (a.t + 1) m)) 0) (λ (m : ℕ). get_or a.s.now (a.q + (lane l.rows a.t m * a.width + lane l.rows (a.t + 1) m)) 0) l.i (l.i + 16) l.rows _ (omega arith) (λ m h k. ap (λ (x : ℕ). get_or a.s.now x 0) (same_pairs a.rows.now a.d _ 0 l.i l.rows l.invariant.1.1 a.q a.width a.t m h (omega arith))) l.invariant.1.1 c.two_part.ensures)
