-- A strip that fails as a whole is gone over, with the block that fails; in another one the search goes on by its lanes.
use native.Mathlib.Omega.{arith}
use Prim.Native.Nat.{ℕ, ◌+◌, ◌-◌, ◌*◌, ◌/◌, ◌%◌, ◌≤◌, ◌<◌}
use mathlib.Core.Path.{◌≡◌, refl, sym, ap, subst, ◌∙◌}
use mathlib.Core.List.{List}
use mathlib.Core.Bool.{Bool}
use lib.ListN.{length, get_or, drop}
use Rattle.evaluation.specs.Known.{Alike}
use Rattle.assignments.specs.Places.{product, digits_of}
use Rattle.assignments.specs.Conditions.{env}
use Rattle.assignments.specs.Parting.{Standing, part_met}
use Rattle.assignments.proofs.Counter.{per_variable_length}
use Rattle.assignments.proofs.Blocks.{blocked}
use Rattle.assignments.proofs.Passing.{going_start, going_skip}
use Rattle.assignments.proofs.InRows.{row_says, came_to, all_positive, row_pos, strip_pos}
use Rattle.assignments.proofs.strips.in_strip.Goals as goal

pub nonzero_rem-j : goal.nonzero_rem-j
nonzero_rem-j c = let a = c.args in let pre = c.requires in row_pos a.space.now.z.at a.l a.u a.g a.w pre.1.1.0 (let n : length a.space.now.z.at ≡ 4 = omega arith in n) pre.0.1.1.1.0

pub returns-then-j-w-ne0 : goal.returns-then-j-w-ne0
returns-then-j-w-ne0 c = let a = c.args in let pre = c.requires in let acc : ℕ → Bool = λ i. part_met a.space.now.s.now a.space.now.funcs.now a.c.now.froms a.c.now.ends a.c.now.blocks a.c.now.count (env a.space.now.p a.space.now.params.at (digits_of a.space.now.z.at i)) in (tt, (omega arith, (omega arith, λ part w z. (w, (z, came_to acc a.to a.j a.k (record { at = a.j; left = a.k }) (going_start acc a.to a.j a.k))))))

pub block_size-requires : goal.block_size-requires
block_size-requires c = c.requires.0.1.1.1.0

pub narrow-b-requires : goal.narrow-b-requires
narrow-b-requires c = c.block_size.ensures.1

pub values-requires : goal.values-requires
values-requires c = λ i h. (c.requires.0.1.1.1.0 i h).0

pub environment-e-requires : goal.environment-e-requires
environment-e-requires c = (c.requires.0.0, c.requires.0.1.0)

pub overflow_sub-b : goal.overflow_sub-b
overflow_sub-b c = let a = c.args in let pre = c.requires in let is_b : c.narrow-b.result ≡ product (drop a.u a.space.now.z.at) = c.narrow-b.ensures ∙ c.block_size.ensures.0 in let pos = strip_pos a.space.now.z.at a.l a.u a.g a.w pre.1.1.0 (let n : length a.space.now.z.at ≡ 4 = omega arith in n) pre.0.1.1.1.0 c.narrow-b.result is_b in omega (arith, pos)

pub test-d-requires : goal.test-d-requires
test-d-requires c = c.requires.0.1.1.0

pub next-at-requires : goal.next-at-requires
next-at-requires c = let a = c.args in let pre = c.requires in let is_b : c.narrow-b.result ≡ product (drop a.u a.space.now.z.at) = c.narrow-b.ensures ∙ c.block_size.ensures.0 in let pos = strip_pos a.space.now.z.at a.l a.u a.g a.w pre.1.1.0 (let n : length a.space.now.z.at ≡ 4 = omega arith in n) pre.0.1.1.1.0 c.narrow-b.result is_b in (omega (arith, pos, c.wide_block.ensures.0, c.if-b-d.true), (c.wide_block.ensures.1, omega (arith, pre.1.0, pre.0.1.1.1.1.0)))

pub returns-then-b-d : goal.returns-then-b-d
returns-then-b-d c = let a = c.args in let pre = c.requires in let is_b : c.narrow-b.result ≡ product (drop a.u a.space.now.z.at) = c.narrow-b.ensures ∙ c.block_size.ensures.0 in let pos = strip_pos a.space.now.z.at a.l a.u a.g a.w pre.1.1.0 (let n : length a.space.now.z.at ≡ 4 = omega arith in n) pre.0.1.1.1.0 c.narrow-b.result is_b in let e = c.environment-e in let d = c.test-d in let few : a.space.now.p ≤ length a.space.now.params.at = omega (arith, pre.0.0) in let alike : Alike e.result.at (env a.space.now.p a.space.now.params.at (digits_of a.space.now.z.at a.j)) = λ v. e.ensures v ∙ ap (λ (o : List ℕ). get_or (env a.space.now.p a.space.now.params.at o) v 0) c.values.ensures in let acc : ℕ → Bool = λ i. part_met a.space.now.s.now a.space.now.funcs.now a.c.now.froms a.c.now.ends a.c.now.blocks a.c.now.count (env a.space.now.p a.space.now.params.at (digits_of a.space.now.z.at i)) in let r = c.next-at in (
  tt,
  (
    omega (arith, r.ensures.0),
    (
      omega arith,
      λ part w z. (
        w,
        (
          z,
          let tested = d.ensures (λ i k. (part i k).standing) in
              let least : c.narrow-b.result - 1 < d.result = omega (arith, pos, c.if-b-d.true) in
              came_to acc a.to a.j a.k (record { at = r.result; left = a.k }) (going_skip acc a.to a.j a.k a.j a.k r.result (omega (arith, r.ensures.0)) (λ i h o. blocked a.space.now.s.now a.space.now.funcs.now a.c.now.froms a.c.now.ends a.c.now.blocks a.c.now.count a.space.now.p a.g a.space.now.z.at a.space.now.params.at few (all_positive a.space.now.z.at a.l a.u a.g a.w pre.1.1.0 (let n : length a.space.now.z.at ≡ 4 = omega arith in n) pre.0.1.1.1.0) part e.result.at a.j alike (c.narrow-b.result - 1) d.result tested least i (subst (λ (x : ℕ). i / x ≡ a.j / x) c.wide_block.ensures.0 (r.ensures.1 i h o))) (going_start acc a.to a.j a.k)),
        ),
      ),
    ),
  ),
)

pub bounds-sizes-l : goal.bounds-sizes-l
bounds-sizes-l c = let pre = c.requires in omega (arith, pre.0.0, pre.1.1.0.u_first, pre.1.1.0.l_inside)

pub overflow_add-first : goal.overflow_add-first
overflow_add-first c = let pre = c.requires in omega (arith, pre.0.0, pre.1.1.0.u_first, pre.1.1.0.l_inside)

pub bounds-a-space : goal.bounds-a-space
bounds-a-space c = let pre = c.requires in omega (arith, pre.0.0, pre.1.1.0.u_first, pre.1.1.0.l_inside)

pub bounds-sizes-u : goal.bounds-sizes-u
bounds-sizes-u c = let pre = c.requires in omega (arith, pre.0.0, pre.1.1.0.u_first, pre.1.1.0.l_inside)

pub rows_in-m-requires : goal.rows_in-m-requires
rows_in-m-requires c = let pre = c.requires in (pre.0.1.1.1.0 c.args.l pre.1.1.0.l_inside).0

pub returns-then-m-eq0 : goal.returns-then-m-eq0
returns-then-m-eq0 c = let a = c.args in let pre = c.requires in let acc : ℕ → Bool = λ i. part_met a.space.now.s.now a.space.now.funcs.now a.c.now.froms a.c.now.ends a.c.now.blocks a.c.now.count (env a.space.now.p a.space.now.params.at (digits_of a.space.now.z.at i)) in (tt, (omega arith, (omega arith, λ part w z. (w, (z, came_to acc a.to a.j a.k (record { at = a.j; left = a.k }) (going_start acc a.to a.j a.k))))))

pub overflow_add-space : goal.overflow_add-space
overflow_add-space c = let pre = c.requires in omega (arith, pre.0.0, pre.1.1.0.u_first, pre.1.1.0.l_inside)

pub overflow_add-space-2 : goal.overflow_add-space-2
overflow_add-space-2 c = let pre = c.requires in omega (arith, pre.0.0, pre.1.1.0.u_first, pre.1.1.0.l_inside)

pub overflow_mul-m : goal.overflow_mul-m
overflow_mul-m c = let lanes : c.rows_in-m.result * c.wide.result ≤ 128 = subst (λ (x : ℕ). c.rows_in-m.result * x ≤ 128) (sym c.wide.ensures.0) c.rows_in-m.ensures.0 in omega (arith, lanes)

pub in_lanes-requires : goal.in_lanes-requires
in_lanes-requires c = let a = c.args in let pre = c.requires in let lanes : c.rows_in-m.result * c.wide.result ≤ 128 = subst (λ (x : ℕ). c.rows_in-m.result * x ≤ 128) (sym c.wide.ensures.0) c.rows_in-m.ensures.0 in let some : 0 < c.rows_in-m.result = omega (arith, c.if-m-eq0.false) in let fits = c.rows_in-m.ensures.1 some in let inside = pre.1.1.0.l_inside in let before = pre.1.1.0.u_first in let right = pre.0.1.1.1.0 in ((pre.1.0, (pre.0.1.1.1.1.0, pre.0.1.1.1.1.1.1)), (((right a.l inside).0, (omega (arith, fits, some, (right a.u (omega arith)).1), lanes)), (pre.0.1.1.0, pre.1.1.1)))

pub shape_of-rows : goal.shape_of-rows
shape_of-rows c = c.in_lanes.auto.rows

pub shape_of-marks : goal.shape_of-marks
shape_of-marks c = c.in_lanes.auto.marks

pub shape_of-slow : goal.shape_of-slow
shape_of-slow c = c.in_lanes.auto.slow

pub shape_of-fast : goal.shape_of-fast
shape_of-fast c = c.in_lanes.auto.fast

pub shape_of-met : goal.shape_of-met
shape_of-met c = c.in_lanes.auto.met

pub returns : goal.returns
returns c = let a = c.args in let pre = c.requires in let is_b : c.narrow-b.result ≡ product (drop a.u a.space.now.z.at) = c.narrow-b.ensures ∙ c.block_size.ensures.0 in let pos = strip_pos a.space.now.z.at a.l a.u a.g a.w pre.1.1.0 (let n : length a.space.now.z.at ≡ 4 = omega arith in n) pre.0.1.1.1.0 c.narrow-b.result is_b in let e = c.environment-e in let d = c.test-d in let few : a.space.now.p ≤ length a.space.now.params.at = omega (arith, pre.0.0) in let alike : Alike e.result.at (env a.space.now.p a.space.now.params.at (digits_of a.space.now.z.at a.j)) = λ v. e.ensures v ∙ ap (λ (o : List ℕ). get_or (env a.space.now.p a.space.now.params.at o) v 0) c.values.ensures in let acc : ℕ → Bool = λ i. part_met a.space.now.s.now a.space.now.funcs.now a.c.now.froms a.c.now.ends a.c.now.blocks a.c.now.count (env a.space.now.p a.space.now.params.at (digits_of a.space.now.z.at i)) in let some : 0 < c.rows_in-m.result = omega (arith, c.if-m-eq0.false) in let fits = c.rows_in-m.ensures.1 some in let r = c.in_lanes in (
  r.ensures.0,
  (
    r.ensures.1.0,
    (
      r.ensures.1.1.0,
      λ part w z.
          let known : a.space.now.p + a.l < length e.result.at = let o = per_variable_length e.result _ e.type_inv in omega (arith, pre.0.0, pre.1.1.0.l_inside) in
          let known-u : a.space.now.p + a.u < length e.result.at = omega (arith, known, pre.1.1.0.u_first) in
          let standing : (i : ℕ) → i < a.c.now.count → Standing a.space.now.s.now a.c.now.froms a.c.now.ends i = λ i k. (part i k).standing in
          let aligned : a.j % a.w ≡ 0 = omega (arith, c.if-j-w-ne0.false) in
          let tested = d.ensures standing in
          let small : d.result < c.narrow-b.result = omega (arith, c.if-b-d.false) in
          let t = r.ensures.1.1.1 standing known-u known w z in
          (t.0, (t.1.0, t.1.1 acc (λ sl fa me st i x h o y. row_says a.space.now.s.now a.space.now.funcs.now a.c.now.froms a.c.now.ends a.c.now.blocks a.c.now.count a.space.now.p a.g a.space.now.z.at a.space.now.params.at few (all_positive a.space.now.z.at a.l a.u a.g a.w pre.1.1.0 (let n : length a.space.now.z.at ≡ 4 = omega arith in n) pre.0.1.1.1.0) part a.l a.u a.w (let n : length a.space.now.z.at ≡ 4 = omega arith in n) pre.1.1.0 e.result.at a.j aligned alike known sl fa me (get_or e.result.at (a.space.now.p + a.u) 0) c.rows_in-m.result (c.rows_in-m.result * c.wide.result) st (ap (λ (m : ℕ). c.rows_in-m.result * m) c.wide.ensures.0) refl fits i h x o y c.narrow-b.result is_b d.result tested small))),
    ),
  ),
)
