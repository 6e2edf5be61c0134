-- Block after block of the variables before the gap: what is met in the first round of a block says what is met in all of it.
use native.Mathlib.Omega.{arith}
use native.Mathlib.Nat.{mod-le}
use Rattle.std.specs.Prelude.{Ok, Err}
use Rattle.std.proofs.lemmas.Result.{err_from_is_err_and}
use Prim.Native.Nat.{ℕ, ◌+◌, ◌-◌, ◌*◌, ◌/◌, ◌≤◌, ◌<◌}
use mathlib.Core.Path.{refl}
use mathlib.Core.Bool.{Bool}
use lib.ListN.{length, get_or}
use Rattle.assignments.specs.Places.{digits_of}
use Rattle.assignments.specs.Conditions.{env}
use Rattle.assignments.specs.Parting.{part_met}
use Rattle.assignments.proofs.Passing.{going_start, none_left, from_first}
use Rattle.assignments.proofs.Between.{rounds_pos, later_below, past_below, around_first, around_later, around_past, turn_same, turn_fits, turn_whole, turn_next}
use Rattle.assignments.proofs.gaps.find_around.Goals as goal

pub nonzero_div-rounds : goal.nonzero_div-rounds
nonzero_div-rounds c = omega (arith, c.requires.1.1.1.1.1.1.1.0)

pub loop-j-init : goal.loop-j-init
loop-j-init c = (omega arith, λ l m ge te part gapped. (0, omega arith, going_start _ _ _ _))

pub overflow_add-to : goal.overflow_add-to
overflow_add-to c = omega (arith, c.requires.1.1.1.1.0, c.requires.1.1.1.1.1.1.1)

pub find_from-requires : goal.find_from-requires
find_from-requires c = let q = c.requires in (q.0, (q.1.0, (q.1.1.0, (q.1.1.1.0, (omega (arith, q.1.1.1.1.0, q.1.1.1.1.1.1.1), (q.1.1.1.1.1.0, q.1.1.1.1.1.1.0))))))

pub returns-in-Ok : goal.returns-in-Ok
returns-in-Ok c = let q = c.requires in (
  omega (arith, c.in-Ok.ensures.0, q.1.1.1.1.0, q.1.1.1.1.1.1.1),
  (
    tt,
    λ l m ge te part gapped. let a = c.args in let here = c.loop-j in
        let positive : (i : ℕ) → i < length a.space.now.z.at → 0 < get_or a.space.now.z.at i 0 = λ i h. (c.requires.1.1.1.0 i (omega arith)).0 in
        let few : a.space.now.p ≤ length a.space.now.params.at = omega (arith, c.requires.0) in
        let acc : ℕ → Bool = λ i. part_met a.space.now.s.now a.space.now.funcs.now a.c.now.froms a.c.now.ends a.c.now.blocks a.c.now.count (env a.space.now.p a.space.now.params.at (digits_of a.space.now.z.at i)) in
        let turn = here.invariant.1 l m ge te part gapped in
        from_first acc a.total a.k (Ok c.in-Ok.at) (around_first acc here.j a.t.behind (a.t.before / a.t.behind) a.t.before (turn_whole a.space.now.s.now a.space.now.funcs.now a.c.now.froms a.c.now.ends a.c.now.blocks a.c.now.count a.space.now.p a.space.now.z.at a.space.now.params.at few positive a.total a.t.before a.t.behind gapped m te a.k here.j here.left turn c.loop-j-test.true) (rounds_pos a.t.before a.t.behind c.requires.1.1.1.1.1.1.1.0 c.requires.1.1.1.1.1.1.1.1.0) (turn_same a.space.now.s.now a.space.now.funcs.now a.c.now.froms a.c.now.ends a.c.now.blocks a.c.now.count a.space.now.p a.space.now.z.at a.space.now.params.at few positive a.total a.t.before a.t.behind gapped m te a.k here.j here.left turn c.loop-j-test.true) a.total 0 a.k here.left (turn_fits a.space.now.s.now a.space.now.funcs.now a.c.now.froms a.c.now.ends a.c.now.blocks a.c.now.count a.space.now.p a.space.now.z.at a.space.now.params.at few positive a.total a.t.before a.t.behind gapped m te a.k here.j here.left turn c.loop-j-test.true) turn.2 c.in-Ok.at (c.in-Ok.ensures.1.1 l ge part)),
  ),
)

pub overflow_sub-m : goal.overflow_sub-m
overflow_sub-m c = omega (arith, c.in-Err.ensures.1.0)

pub nonzero_div-left : goal.nonzero_div-left
nonzero_div-left c = omega (arith, rounds_pos c.args.t.before c.args.t.behind c.requires.1.1.1.1.1.1.1.0 c.requires.1.1.1.1.1.1.1.1.0)

pub find_from-requires-then-left-rounds : goal.find_from-requires-then-left-rounds
find_from-requires-then-left-rounds c = let q = c.requires in (q.0, (q.1.0, (q.1.1.0, (q.1.1.1.0, (omega (arith, q.1.1.1.1.0, q.1.1.1.1.1.1.1), (q.1.1.1.1.1.0, q.1.1.1.1.1.1.0))))))

pub overflow_mul-result : goal.overflow_mul-result
overflow_mul-result c = omega (arith, later_below c.args.t.before c.args.t.behind c.loop-j.left (c.loop-j.left - c.in-Err.rest) c.requires.1.1.1.1.1.1.1.0 c.requires.1.1.1.1.1.1.1.1.0 c.if-left-rounds.true, c.requires.1.1.1.1.1.1.1)

pub overflow_add-result : goal.overflow_add-result
overflow_add-result c = omega (arith, later_below c.args.t.before c.args.t.behind c.loop-j.left (c.loop-j.left - c.in-Err.rest) c.requires.1.1.1.1.1.1.1.0 c.requires.1.1.1.1.1.1.1.1.0 c.if-left-rounds.true, c.in_ok-at.ensures.0, c.requires.1.1.1.1.0, c.requires.1.1.1.1.1.1.1)

pub returns-in_err-at : goal.returns-in_err-at
returns-in_err-at c = let p = err_from_is_err_and c.from_residual.result c.from_residual.ensures.1 in rw (p.1, p.2) (
  tt,
  (
    omega (arith, c.in_err-at.ensures.1.0, mod-le c.loop-j.left (c.loop-j.left - c.in-Err.rest), c.loop-j.invariant.0),
    λ l m ge te part gapped. let a = c.args in let here = c.loop-j in
        let positive : (i : ℕ) → i < length a.space.now.z.at → 0 < get_or a.space.now.z.at i 0 = λ i h. (c.requires.1.1.1.0 i (omega arith)).0 in
        let few : a.space.now.p ≤ length a.space.now.params.at = omega (arith, c.requires.0) in
        let acc : ℕ → Bool = λ i. part_met a.space.now.s.now a.space.now.funcs.now a.c.now.froms a.c.now.ends a.c.now.blocks a.c.now.count (env a.space.now.p a.space.now.params.at (digits_of a.space.now.z.at i)) in
        let turn = here.invariant.1 l m ge te part gapped in
        absurd (around_later acc here.j a.t.behind (a.t.before / a.t.behind) a.t.before (turn_whole a.space.now.s.now a.space.now.funcs.now a.c.now.froms a.c.now.ends a.c.now.blocks a.c.now.count a.space.now.p a.space.now.z.at a.space.now.params.at few positive a.total a.t.before a.t.behind gapped m te a.k here.j here.left turn c.loop-j-test.true) (rounds_pos a.t.before a.t.behind c.requires.1.1.1.1.1.1.1.0 c.requires.1.1.1.1.1.1.1.1.0) (turn_same a.space.now.s.now a.space.now.funcs.now a.c.now.froms a.c.now.ends a.c.now.blocks a.c.now.count a.space.now.p a.space.now.z.at a.space.now.params.at few positive a.total a.t.before a.t.behind gapped m te a.k here.j here.left turn c.loop-j-test.true) a.total 0 a.k here.left (turn_fits a.space.now.s.now a.space.now.funcs.now a.c.now.froms a.c.now.ends a.c.now.blocks a.c.now.count a.space.now.p a.space.now.z.at a.space.now.params.at few positive a.total a.t.before a.t.behind gapped m te a.k here.j here.left turn c.loop-j-test.true) turn.2 c.in-Err.rest (c.in-Err.ensures.1.1 l ge part) (here.left - c.in-Err.rest) refl c.if-left-rounds.true (Err _) (c.in_err-at.ensures.1.1 l ge part)),
  ),
)

pub returns-then-left-rounds : goal.returns-then-left-rounds
returns-then-left-rounds c = let q = c.requires in (
  omega (arith, later_below c.args.t.before c.args.t.behind c.loop-j.left (c.loop-j.left - c.in-Err.rest) c.requires.1.1.1.1.1.1.1.0 c.requires.1.1.1.1.1.1.1.1.0 c.if-left-rounds.true, c.in_ok-at.ensures.0, q.1.1.1.1.0, q.1.1.1.1.1.1.1),
  (
    tt,
    λ l m ge te part gapped. let a = c.args in let here = c.loop-j in
        let positive : (i : ℕ) → i < length a.space.now.z.at → 0 < get_or a.space.now.z.at i 0 = λ i h. (c.requires.1.1.1.0 i (omega arith)).0 in
        let few : a.space.now.p ≤ length a.space.now.params.at = omega (arith, c.requires.0) in
        let acc : ℕ → Bool = λ i. part_met a.space.now.s.now a.space.now.funcs.now a.c.now.froms a.c.now.ends a.c.now.blocks a.c.now.count (env a.space.now.p a.space.now.params.at (digits_of a.space.now.z.at i)) in
        let turn = here.invariant.1 l m ge te part gapped in
        from_first acc a.total a.k _ (around_later acc here.j a.t.behind (a.t.before / a.t.behind) a.t.before (turn_whole a.space.now.s.now a.space.now.funcs.now a.c.now.froms a.c.now.ends a.c.now.blocks a.c.now.count a.space.now.p a.space.now.z.at a.space.now.params.at few positive a.total a.t.before a.t.behind gapped m te a.k here.j here.left turn c.loop-j-test.true) (rounds_pos a.t.before a.t.behind c.requires.1.1.1.1.1.1.1.0 c.requires.1.1.1.1.1.1.1.1.0) (turn_same a.space.now.s.now a.space.now.funcs.now a.c.now.froms a.c.now.ends a.c.now.blocks a.c.now.count a.space.now.p a.space.now.z.at a.space.now.params.at few positive a.total a.t.before a.t.behind gapped m te a.k here.j here.left turn c.loop-j-test.true) a.total 0 a.k here.left (turn_fits a.space.now.s.now a.space.now.funcs.now a.c.now.froms a.c.now.ends a.c.now.blocks a.c.now.count a.space.now.p a.space.now.z.at a.space.now.params.at few positive a.total a.t.before a.t.behind gapped m te a.k here.j here.left turn c.loop-j-test.true) turn.2 c.in-Err.rest (c.in-Err.ensures.1.1 l ge part) (here.left - c.in-Err.rest) refl c.if-left-rounds.true (Ok c.in_ok-at.at) (c.in_ok-at.ensures.1.1 l ge part)),
  ),
)

pub overflow_mul-left : goal.overflow_mul-left
overflow_mul-left c = omega (arith, past_below (c.args.t.before / c.args.t.behind) c.loop-j.left (c.loop-j.left - c.in-Err.rest) (rounds_pos c.args.t.before c.args.t.behind c.requires.1.1.1.1.1.1.1.0 c.requires.1.1.1.1.1.1.1.1.0) c.if-left-rounds.false)

pub overflow_sub-left : goal.overflow_sub-left
overflow_sub-left c = omega (arith, past_below (c.args.t.before / c.args.t.behind) c.loop-j.left (c.loop-j.left - c.in-Err.rest) (rounds_pos c.args.t.before c.args.t.behind c.requires.1.1.1.1.1.1.1.0 c.requires.1.1.1.1.1.1.1.1.0) c.if-left-rounds.false)

pub overflow_step-j : goal.overflow_step-j
overflow_step-j c = omega (arith, c.requires.1.1.1.1.0, c.requires.1.1.1.1.1.1.1)

pub loop-j-smaller : goal.loop-j-smaller
loop-j-smaller c = omega (arith, c.requires.1.1.1.1.1.1.1.0, c.requires.1.1.1.1.1.1.1.1.0)

pub loop-j-preserved : goal.loop-j-preserved
loop-j-preserved c = (
  omega arith,
  λ l m ge te part gapped. let a = c.args in let here = c.loop-j in
      let positive : (i : ℕ) → i < length a.space.now.z.at → 0 < get_or a.space.now.z.at i 0 = λ i h. (c.requires.1.1.1.0 i (omega arith)).0 in
      let few : a.space.now.p ≤ length a.space.now.params.at = omega (arith, c.requires.0) in
      let acc : ℕ → Bool = λ i. part_met a.space.now.s.now a.space.now.funcs.now a.c.now.froms a.c.now.ends a.c.now.blocks a.c.now.count (env a.space.now.p a.space.now.params.at (digits_of a.space.now.z.at i)) in
      let turn = here.invariant.1 l m ge te part gapped in
      turn_next a.space.now.s.now a.space.now.funcs.now a.c.now.froms a.c.now.ends a.c.now.blocks a.c.now.count a.space.now.p a.space.now.z.at a.space.now.params.at few positive a.total a.t.before a.t.behind gapped m te a.k here.j here.left turn c.loop-j-test.true (here.left - (c.loop-j.left - c.in-Err.rest) * (a.t.before / a.t.behind)) (around_past acc here.j a.t.behind (a.t.before / a.t.behind) a.t.before (turn_whole a.space.now.s.now a.space.now.funcs.now a.c.now.froms a.c.now.ends a.c.now.blocks a.c.now.count a.space.now.p a.space.now.z.at a.space.now.params.at few positive a.total a.t.before a.t.behind gapped m te a.k here.j here.left turn c.loop-j-test.true) (rounds_pos a.t.before a.t.behind c.requires.1.1.1.1.1.1.1.0 c.requires.1.1.1.1.1.1.1.1.0) (turn_same a.space.now.s.now a.space.now.funcs.now a.c.now.froms a.c.now.ends a.c.now.blocks a.c.now.count a.space.now.p a.space.now.z.at a.space.now.params.at few positive a.total a.t.before a.t.behind gapped m te a.k here.j here.left turn c.loop-j-test.true) a.total 0 a.k here.left (turn_fits a.space.now.s.now a.space.now.funcs.now a.c.now.froms a.c.now.ends a.c.now.blocks a.c.now.count a.space.now.p a.space.now.z.at a.space.now.params.at few positive a.total a.t.before a.t.behind gapped m te a.k here.j here.left turn c.loop-j-test.true) turn.2 c.in-Err.rest (c.in-Err.ensures.1.1 l ge part) (here.left - c.in-Err.rest) refl c.if-left-rounds.false),
)

pub returns-else-left-rounds : goal.returns-else-left-rounds
returns-else-left-rounds c = (
  tt,
  (
    omega (arith, c.loop-j.invariant.0),
    λ l m ge te part gapped. let a = c.args in let here = c.loop-j in
        let positive : (i : ℕ) → i < length a.space.now.z.at → 0 < get_or a.space.now.z.at i 0 = λ i h. (c.requires.1.1.1.0 i (omega arith)).0 in
        let few : a.space.now.p ≤ length a.space.now.params.at = omega (arith, c.requires.0) in
        let acc : ℕ → Bool = λ i. part_met a.space.now.s.now a.space.now.funcs.now a.c.now.froms a.c.now.ends a.c.now.blocks a.c.now.count (env a.space.now.p a.space.now.params.at (digits_of a.space.now.z.at i)) in
        let turn = here.invariant.1 l m ge te part gapped in
        from_first acc a.total a.k _ (none_left acc a.total 0 a.k (here.j + a.t.before) (here.left - (here.left - c.in-Err.rest) * (a.t.before / a.t.behind)) (omega arith) (turn_next a.space.now.s.now a.space.now.funcs.now a.c.now.froms a.c.now.ends a.c.now.blocks a.c.now.count a.space.now.p a.space.now.z.at a.space.now.params.at few positive a.total a.t.before a.t.behind gapped m te a.k here.j here.left turn c.loop-j-test.true (here.left - (c.loop-j.left - c.in-Err.rest) * (a.t.before / a.t.behind)) (around_past acc here.j a.t.behind (a.t.before / a.t.behind) a.t.before (turn_whole a.space.now.s.now a.space.now.funcs.now a.c.now.froms a.c.now.ends a.c.now.blocks a.c.now.count a.space.now.p a.space.now.z.at a.space.now.params.at few positive a.total a.t.before a.t.behind gapped m te a.k here.j here.left turn c.loop-j-test.true) (rounds_pos a.t.before a.t.behind c.requires.1.1.1.1.1.1.1.0 c.requires.1.1.1.1.1.1.1.1.0) (turn_same a.space.now.s.now a.space.now.funcs.now a.c.now.froms a.c.now.ends a.c.now.blocks a.c.now.count a.space.now.p a.space.now.z.at a.space.now.params.at few positive a.total a.t.before a.t.behind gapped m te a.k here.j here.left turn c.loop-j-test.true) a.total 0 a.k here.left (turn_fits a.space.now.s.now a.space.now.funcs.now a.c.now.froms a.c.now.ends a.c.now.blocks a.c.now.count a.space.now.p a.space.now.z.at a.space.now.params.at few positive a.total a.t.before a.t.behind gapped m te a.k here.j here.left turn c.loop-j-test.true) turn.2 c.in-Err.rest (c.in-Err.ensures.1.1 l ge part) (here.left - c.in-Err.rest) refl c.if-left-rounds.false)).2),
  ),
)

pub returns : goal.returns
returns c = (
  tt,
  (
    c.loop-j.invariant.0,
    λ l m ge te part gapped. let a = c.args in let here = c.loop-j in
        let positive : (i : ℕ) → i < length a.space.now.z.at → 0 < get_or a.space.now.z.at i 0 = λ i h. (c.requires.1.1.1.0 i (omega arith)).0 in
        let few : a.space.now.p ≤ length a.space.now.params.at = omega (arith, c.requires.0) in
        let acc : ℕ → Bool = λ i. part_met a.space.now.s.now a.space.now.funcs.now a.c.now.froms a.c.now.ends a.c.now.blocks a.c.now.count (env a.space.now.p a.space.now.params.at (digits_of a.space.now.z.at i)) in
        let turn = here.invariant.1 l m ge te part gapped in
        from_first acc a.total a.k _ (none_left acc a.total 0 a.k here.j here.left c.loop-j-test.false turn.2),
  ),
)
