-- Rows serve where two variables vary; there the search goes by strips.
use native.Mathlib.Omega.{arith}
use Prim.Native.Nat.{ℕ, ◌+◌, ◌*◌, ◌<◌}
use mathlib.Core.Path.{sym, ◌∙◌}
use mathlib.Core.Bool.{Bool}
use Rattle.laws.specs.Places.{get_or_zeros}
use Rattle.assignments.specs.Places.{digits_of}
use Rattle.assignments.specs.Conditions.{env}
use Rattle.assignments.specs.Parting.{part_met}
use Rattle.assignments.proofs.Passing.{going_start}
use Rattle.assignments.proofs.InRows.{came_to, zero_room}
use Rattle.assignments.proofs.in_rows.find_rows.Goals as goal

pub returns-in_default : goal.returns-in_default
returns-in_default c = let a = c.args in let acc : ℕ → Bool = λ i. part_met a.space.now.s.now a.space.now.funcs.now a.c.now.froms a.c.now.ends a.c.now.blocks a.c.now.count (env a.space.now.p a.space.now.params.at (digits_of a.space.now.z.at i)) in (tt, (omega arith, (omega arith, λ lv q part. came_to acc a.to a.from a.k (record { at = a.from; left = a.k }) (going_start acc a.to a.from a.k))))

pub returns-in_default-row_level : goal.returns-in_default-row_level
returns-in_default-row_level c = let a = c.args in let acc : ℕ → Bool = λ i. part_met a.space.now.s.now a.space.now.funcs.now a.c.now.froms a.c.now.ends a.c.now.blocks a.c.now.count (env a.space.now.p a.space.now.params.at (digits_of a.space.now.z.at i)) in (tt, (omega arith, (omega arith, λ lv q part. came_to acc a.to a.from a.k (record { at = a.from; left = a.k }) (going_start acc a.to a.from a.k))))

pub returns-then-l-u : goal.returns-then-l-u
returns-then-l-u c = let a = c.args in let acc : ℕ → Bool = λ i. part_met a.space.now.s.now a.space.now.funcs.now a.c.now.froms a.c.now.ends a.c.now.blocks a.c.now.count (env a.space.now.p a.space.now.params.at (digits_of a.space.now.z.at i)) in (tt, (omega arith, (omega arith, λ lv q part. came_to acc a.to a.from a.k (record { at = a.from; left = a.k }) (going_start acc a.to a.from a.k))))

pub by_strips-requires : goal.by_strips-requires
by_strips-requires c = let a = c.args in let l = c.in-Some in let u = c.in-Some-row_level in let before : u.u < l.l = omega (arith, c.if-l-u.false) in (
  c.requires,
  (
    record {
      u_first = before;
      l_inside = l.ensures.0;
      grain_is = l.ensures.1;
      row_is = c.block_size-w.ensures.0;
      again_is = u.ensures.1;
    },
    zero_room,
  ),
)

pub returns : goal.returns
returns c = let r = c.by_strips.ensures in (r.0, (r.1.0, (r.1.1.0, λ lv q part. r.1.1.1 part (λ i h e x o. get_or_zeros 2560 (i * 128 + x) ∙ sym (get_or_zeros 2560 (i * 128 + 0))) (λ x h. get_or_zeros 2560 x))))
