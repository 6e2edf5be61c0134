-- The lanes are made, sifted by the conditions, and searched.
use native.Mathlib.Omega.{arith}
use Rattle.std.specs.Prelude.{Ok, Err, Option, None, Some, IfSome}
use Prim.Native.Nat.{◌+◌, ◌*◌, ◌≤◌}
use mathlib.Core.Path.{◌≡◌, refl, ◌∙◌}
use Rattle.assignments.proofs.Passing.{going_start}
use Rattle.assignments.proofs.InRows.{row_small, lent_again, met_lane, came_to, came_lanes}
use Rattle.assignments.proofs.strips.in_lanes.Goals as goal

known_some : {A : Type 0} {P : A → Type 0} (o : Option A) → (o ≡ None → ⊥) → IfSome o P → (a : A) × P a
known_some None n p = absurd (n refl)
known_some (Some a) n p = (a, p)

pub overflow_mul-lanes : goal.overflow_mul-lanes
overflow_mul-lanes c = omega (arith, row_small c.args.lanes c.args.g (omega arith) (omega arith))

pub returns-then-to-j : goal.returns-then-to-j
returns-then-to-j c = let a = c.args in (tt, (omega arith, (omega arith, λ st h k w z. (w, (z, λ acc says. came_to acc a.to a.j a.k (record { at = a.j; left = a.k }) (going_start acc a.to a.j a.k))))))

pub row_test-some-requires : goal.row_test-some-requires
row_test-some-requires c = let a = c.args in let pre = c.requires in let k = c.strip.auto in (pre.1.1.0, (lent_again a.rows.now a.marks.now a.slow.now a.fast.now a.met.now _ _ _ _ _ refl refl k.slow k.fast k.met pre.1.1.1, pre.1.0.1.1))

pub shape_of-rows-then-is_none : goal.shape_of-rows-then-is_none
shape_of-rows-then-is_none c = c.row_test-some.auto.rows

pub shape_of-marks-then-is_none : goal.shape_of-marks-then-is_none
shape_of-marks-then-is_none c = c.row_test-some.auto.marks

pub shape_of-slow-then-is_none : goal.shape_of-slow-then-is_none
shape_of-slow-then-is_none c = c.strip.auto.slow

pub shape_of-fast-then-is_none : goal.shape_of-fast-then-is_none
shape_of-fast-then-is_none c = c.strip.auto.fast

pub shape_of-met-then-is_none : goal.shape_of-met-then-is_none
shape_of-met-then-is_none c = c.row_test-some.auto.met ∙ c.strip.auto.met

pub returns-then-is_none : goal.returns-then-is_none
returns-then-is_none c = let a = c.args in (tt, (omega arith, (omega arith, λ st h k w z. let r = c.row_test-some.ensures st h k w z in (r.0, (r.1.0, λ acc says. came_to acc a.to a.j a.k (record { at = a.j; left = a.k }) (going_start acc a.to a.j a.k))))))

pub in_row-requires : goal.in_row-requires
in_row-requires c = let pre = c.requires in (pre.1.0.1.1, (omega (arith, c.row_test-some.auto.met, c.strip.auto.met, pre.1.1.1.met_long), (pre.0.1.1, omega (arith, pre.0.0, pre.0.1.0))))

pub returns-in-Ok : goal.returns-in-Ok
returns-in-Ok c = let a = c.args in let q = c.in-Ok in let pre = c.requires in let fits : a.j + a.lanes * a.g ≤ a.to = omega (arith, c.if-to-j.false, pre.0.0) in (
  omega (arith, q.ensures.0, fits),
  (
    tt,
    (
      tt,
      λ st h k w z. let t = c.strip.ensures in let r = c.row_test-some.ensures st h k w z in (
        r.0,
        (
          r.1.0,
          λ acc says. let e = (known_some c.row_test-some.result (λ e. grind arith) (r.1.1 t.all_kept)).1 in came_lanes acc a.to a.j a.k (a.lanes * a.g) fits (Ok q.at) (q.ensures.1.1 acc (λ i x m o y. says _ _ _ t i x m o y ∙ met_lane _ _ (e.each i m))),
        ),
      ),
    ),
  ),
)

pub returns-in-Err : goal.returns-in-Err
returns-in-Err c = let a = c.args in let q = c.in-Err in let pre = c.requires in let fits : a.j + a.lanes * a.g ≤ a.to = omega (arith, c.if-to-j.false, pre.0.0) in (
  tt,
  (
    omega arith,
    (
      q.ensures.1.0,
      λ st h k w z. let t = c.strip.ensures in let r = c.row_test-some.ensures st h k w z in (
        r.0,
        (
          r.1.0,
          λ acc says. let e = (known_some c.row_test-some.result (λ e. grind arith) (r.1.1 t.all_kept)).1 in came_lanes acc a.to a.j a.k (a.lanes * a.g) fits (Err q.left) (q.ensures.1.1 acc (λ i x m o y. says _ _ _ t i x m o y ∙ met_lane _ _ (e.each i m))),
        ),
      ),
    ),
  ),
)
