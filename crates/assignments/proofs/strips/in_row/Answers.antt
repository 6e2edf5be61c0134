-- A lane that is kept is counted, another is gone over.
use native.Mathlib.Omega.{arith}
use Prim.Native.Nat.{ℕ, ◌+◌, ◌-◌, ◌*◌}
use mathlib.Core.Path.{◌≡◌, refl, sym, subst}
use Rattle.assignments.proofs.InRows.{Lane, lane_below, lane_start, lane_none, lane_some, lane_found, lane_end}
use Rattle.assignments.proofs.strips.in_row.Goals as goal
use Rattle.assignments.proofs.strips.in_row.Goals.{then-lanes-i-ne0+else-left-m, else-lanes-i-ne0}

pub loop-i-init : goal.loop-i-init
loop-i-init c = ((omega arith, refl), λ acc says. lane_start c.args.lanes.now c.args.size c.args.g c.args.j c.args.k acc says)

pub returns-then-left-m : goal.returns-then-left-m
returns-then-left-m c = let a = c.args in let l = c.loop-i in let b = lane_below l.i a.size a.g (a.size * a.g) c.loop-i-test.true refl in (
  omega (arith, l.invariant.0.1),
  (tt, λ acc says. lane_found a.lanes.now a.size a.g a.j a.k acc says l.i l.left (a.j + l.i * a.g + l.left) c.loop-i-test.true (λ z. c.if-lanes-i-ne0.true z) (omega (arith, l.invariant.0.1)) refl (l.invariant.1 acc says)),
)

pub loop-i-preserved : goal.loop-i-preserved
loop-i-preserved c = let a = c.args in let l = c.loop-i in
    elim c.if-lanes-i-ne0.branch [
      | then-lanes-i-ne0+else-left-m w ↦ (
        (omega (arith, w.left-is, l.invariant.0.0), l.invariant.0.1),
        λ acc says. subst (λ (x : ℕ). Lane a.lanes.now a.size a.g a.j a.k acc says (l.i + 1) x) (let z : l.left - a.g ≡ c.if-lanes-i-ne0.left = omega (arith, w.left-is, l.invariant.0.1) in z) (lane_some a.lanes.now a.size a.g a.j a.k acc says l.i l.left c.loop-i-test.true (λ z. w.if-lanes-i-ne0.true z) (omega (arith, w.if-left-m.false, l.invariant.0.1)) (l.invariant.1 acc says)),
      )
      | else-lanes-i-ne0 w ↦ (
        (omega (arith, w.left-is, l.invariant.0.0), l.invariant.0.1),
        λ acc says. subst (λ (x : ℕ). Lane a.lanes.now a.size a.g a.j a.k acc says (l.i + 1) x) (sym w.left-is) (lane_none a.lanes.now a.size a.g a.j a.k acc says l.i l.left c.loop-i-test.true w.if-lanes-i-ne0.false (l.invariant.1 acc says)),
      )
    ]

pub returns : goal.returns
returns c = let a = c.args in let l = c.loop-i in (
  tt,
  (l.invariant.0.0, λ acc says. lane_end a.lanes.now a.size a.g a.j a.k acc says l.i l.left (omega (arith, c.loop-i-test.false)) (l.invariant.1 acc says)),
)
