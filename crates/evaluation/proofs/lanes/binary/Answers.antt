-- Where all values of the first row are the same, one row of the function's values is looked up in.
use native.Mathlib.Omega.{arith}
use Prim.Native.Nat.{ℕ, ◌+◌, ◌*◌}
use mathlib.Core.Path.{◌≡◌, sym, ap, ◌∙◌}
use lib.ListN.{get_or}
use Rattle.evaluation.specs.Rows.{lane}
use Rattle.evaluation.proofs.LaneLaws.{put_as, mark_put, below_highest}
use Rattle.evaluation.proofs.lanes.binary.Goals as goal

pub unary-requires : goal.unary-requires
unary-requires c = (omega (arith, c.row.ensures.1), (omega arith, (omega arith, (omega arith, (omega arith, omega arith)))))

pub returns-then-marks-t-eq0 : goal.returns-then-marks-t-eq0
returns-then-marks-t-eq0 c = λ w. let a = c.args in let u = c.unary.ensures w in let z : a.t * 128 ≡ a.t * 128 + 0 = omega arith in (
  put_as a.n a.rows.now a.d _ _ _ (λ i k.
      let e : lane a.rows.now a.t i * a.width ≡ get_or a.rows.now (a.t * 128) 0 * a.width = ap (λ (y : ℕ). y * a.width) (w a.t (omega arith) c.if-marks-t-eq0.true i (omega arith) ∙ ap (λ (x : ℕ). get_or a.rows.now x 0) (sym z)) in
      let r = c.row.ensures.0 in
      let y : a.q + c.row.result + lane a.rows.now (a.t + 1) i ≡ a.q + (lane a.rows.now a.t i * a.width + lane a.rows.now (a.t + 1) i) = omega (arith, r, e) in
      ap (λ (x : ℕ). get_or a.s.now x 0) y) u.0,
  u.1,
)

pub two_inside-requires : goal.two_inside-requires
two_inside-requires c = (λ i h. below_highest _ _ _ c.highest.result c.highest-2.result _ _ (c.highest.ensures i h) (c.highest-2.ensures i h) (omega (arith, c.row-2.ensures.0)), (omega arith, (omega arith, (omega arith, (omega arith, omega arith)))))

pub returns-then-q-row : goal.returns-then-q-row
returns-then-q-row c = λ w. let a = c.args in let p = c.two_inside.ensures in (p, mark_put a.n a.rows.now a.marks.now a.d _ _ 1 (omega arith) (omega arith) (λ e. absurd (omega arith)) p w)

pub returns : goal.returns
returns c = λ w. let a = c.args in let p = c.two.ensures in (p, mark_put a.n a.rows.now a.marks.now a.d _ _ 1 (omega arith) (omega arith) (λ e. absurd (omega arith)) p w)
