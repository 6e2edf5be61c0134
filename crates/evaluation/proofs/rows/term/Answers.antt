-- From the right, one byte more is read: its row takes the place of those that it takes.
use native.Mathlib.Omega.{arith}
use Prim.Native.Nat.{ℕ, ◌+◌, ◌-◌}
use mathlib.Core.Path.{◌≡◌, refl, ap, ◌∙◌}
use mathlib.Core.List.{List}
use lib.ListN.{take, drop}
use Rattle.evaluation.specs.Run.{run, top}
use Rattle.evaluation.specs.Rows.{lane, lane_env}
use Rattle.evaluation.proofs.LaneLaws.{rows_start, rows_again, zeros_again}
use Rattle.evaluation.proofs.rows.term.Goals as goal

pub loop-j-init : goal.loop-j-init
loop-j-init c = let a = c.args in ((omega arith, (omega arith, omega arith)), ((refl, refl), λ h k w z. (w, (z, rows_start a.n (omega arith) a.s.now a.funcs.now (λ (i : ℕ). lane_env a.e.now a.u a.v a.slow.now a.fast.now i) a.s.now a.rows.now a.end z))))

pub shape_of-rows-then-t-eq0 : goal.shape_of-rows-then-t-eq0
shape_of-rows-then-t-eq0 c = c.loop-j.invariant.1.0.0

pub shape_of-marks-then-t-eq0 : goal.shape_of-marks-then-t-eq0
shape_of-marks-then-t-eq0 c = c.loop-j.invariant.1.0.1

pub returns-then-t-eq0 : goal.returns-then-t-eq0
returns-then-t-eq0 c = let l = c.loop-j in (tt, λ h k w z. let r = l.invariant.1.1 h k w z in (r.0, (r.1.0, tt)))

pub node-t-requires : goal.node-t-requires
node-t-requires c = (omega arith, (omega arith, (omega arith, (omega arith, (omega arith, (omega arith, omega arith))))))

pub loop-j-preserved : goal.loop-j-preserved
loop-j-preserved c = let a = c.args in let l = c.loop-j in let d = c.node-t in let q = d.ensures in let env : ℕ → List ℕ = (λ (i : ℕ). lane_env a.e.now a.u a.v a.slow.now a.fast.now i) in (
  (omega arith, (omega arith, omega (arith, q.0))),
  (
    (d.auto.rows ∙ l.invariant.1.0.0, d.auto.marks ∙ l.invariant.1.0.1),
    λ h k w z.
        let y = l.invariant.1.1 h k w z in
        let x = q.1.1 h k y.0 in
        (x.1, (zeros_again a.n c.requires.1.1.1.1.0 a.s.now a.funcs.now env a.s.now l.rows _ l.j a.end l.t _ d.result (omega arith) (omega arith) c.requires.1.0 y.1.1 y.1.0 refl q.1.0 (omega arith) (omega arith) x.0, rows_again a.n c.requires.1.1.1.1.0 a.s.now a.funcs.now env a.s.now l.rows _ l.j a.end l.t _ d.result (omega arith) (omega arith) c.requires.1.0 y.1.1 y.1.0 refl q.1.0 (omega arith) (omega arith) x.0)),
  ),
)

pub shape_of-rows : goal.shape_of-rows
shape_of-rows c = c.loop-j.invariant.1.0.0

pub shape_of-marks : goal.shape_of-marks
shape_of-marks c = c.loop-j.invariant.1.0.1

pub returns : goal.returns
returns c = let a = c.args in let l = c.loop-j in (omega arith, λ h k w z. let r = l.invariant.1.1 h k w z in (r.0, (r.1.0, λ i o. let e : l.j ≡ a.at = omega arith in let y : l.t ≡ l.t + 0 = omega arith in ap (λ (x : ℕ). lane l.rows x i) y ∙ r.1.1 i o 0 ∙ ap (λ (y : ℕ). top (run a.s.now a.funcs.now (lane_env a.e.now a.u a.v a.slow.now a.fast.now i) (take (a.end - y) (drop y a.s.now)))) e)))
