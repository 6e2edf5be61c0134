-- The lowest mark is shifted out at each turn.
use mathlib.Core.Path.{◌≡◌, ◌∙◌, refl, ap}
use Prim.Native.Nat.{ℕ, ◌+◌}
use native.Mathlib.Omega.{arith}
use lib.ListN.{get_or}
use lib.Count.{count_trailing_zeros}
use Rattle.parts.proofs.MarkedLaws.{listed_start, t_lt, listed_more, listed_all, listed_no_room, params_put, count_no_room, marks_no_room}
use Rattle.parts.proofs.params.put_params.Goals as goal

pub returns-in_err-v : goal.returns-in_err-v
returns-in_err-v c = rw c.from_residual.ensures (count_no_room c.args.m c.args.sorts.now c.low.result c.args.w c.args.out.now c.put.new.out c.in_err-v.ensures)

pub loop-rest-init : goal.loop-rest-init
loop-rest-init c = (refl, listed_start c.args.m c.args.sorts.now c.in_ok-v.v c.put.new.out c.ranges.m.fits)

pub overflow_add-at : goal.overflow_add-at
overflow_add-at c = omega (arith, c.wide.ensures.0, t_lt c.args.m c.args.sorts.now c.in_ok-v.v c.put.new.out c.loop-rest.rest c.loop-rest.at c.loop-rest.v c.loop-rest.out c.requires c.loop-rest.invariant.1 (omega arith))

pub returns-in_err-v-2 : goal.returns-in_err-v-2
returns-in_err-v-2 c =
    let a = c.args in
    let l = c.loop-rest in
    rw c.from_residual-in_err-v-2.ensures
    (marks_no_room a.m a.sorts.now c.low.result a.w a.out.now c.in_ok-v.v c.put.new.out c.put-in-loop-rest.new.out c.in_ok-v.ensures
    (listed_no_room a.m a.sorts.now c.in_ok-v.v c.put.new.out l.rest l.at l.v l.out c.requires l.invariant.1 (omega arith) (count_trailing_zeros 32 l.rest) c.peek.result c.put-in-loop-rest.new.out refl c.in_err-v-2.ensures))

pub overflow_shr-rest : goal.overflow_shr-rest
overflow_shr-rest c = omega (arith, t_lt c.args.m c.args.sorts.now c.in_ok-v.v c.put.new.out c.loop-rest.rest c.loop-rest.at c.loop-rest.v c.loop-rest.out c.requires c.loop-rest.invariant.1 (omega arith))

pub overflow_add-at-in-loop-rest : goal.overflow_add-at-in-loop-rest
overflow_add-at-in-loop-rest c = omega (arith, c.wide-in-loop-rest.ensures.0, t_lt c.args.m c.args.sorts.now c.in_ok-v.v c.put.new.out c.loop-rest.rest c.loop-rest.at c.loop-rest.v c.loop-rest.out c.requires c.loop-rest.invariant.1 (omega arith))

pub overflow_add-at-in-loop-rest-2 : goal.overflow_add-at-in-loop-rest-2
overflow_add-at-in-loop-rest-2 c = omega (arith, c.wide-in-loop-rest.ensures.0, t_lt c.args.m c.args.sorts.now c.in_ok-v.v c.put.new.out c.loop-rest.rest c.loop-rest.at c.loop-rest.v c.loop-rest.out c.requires c.loop-rest.invariant.1 (omega arith))

pub loop-rest-smaller : goal.loop-rest-smaller
loop-rest-smaller c = omega (arith, c.wide-in-loop-rest.ensures.0, t_lt c.args.m c.args.sorts.now c.in_ok-v.v c.put.new.out c.loop-rest.rest c.loop-rest.at c.loop-rest.v c.loop-rest.out c.requires c.loop-rest.invariant.1 (omega arith))

pub loop-rest-preserved : goal.loop-rest-preserved
loop-rest-preserved c =
    let a = c.args in
    let l = c.loop-rest in
    let t = count_trailing_zeros 32 l.rest in
    let z : l.at + c.wide-in-loop-rest.result + 1 ≡ l.at + t + 1 = omega (arith, c.wide-in-loop-rest.ensures.0) in (
      c.put-in-loop-rest.auto.out ∙ l.invariant.0,
      listed_more a.m a.sorts.now c.in_ok-v.v c.put.new.out l.rest l.at l.v l.out c.requires l.invariant.1 (omega arith) t (l.at + c.wide-in-loop-rest.result + 1) c.peek.result c.in_ok-v-2.v c.put-in-loop-rest.new.out
          refl z (c.peek.ensures ∙ ap (λ (k : ℕ). get_or a.sorts.now (l.at + k) 0) c.wide.ensures.0) c.in_ok-v-2.ensures,
    )

pub shape_of-out : goal.shape_of-out
shape_of-out c = c.loop-rest.invariant.0 ∙ c.put.auto.out

pub returns : goal.returns
returns c =
    let a = c.args in
    let l = c.loop-rest in
    params_put a.m a.sorts.now c.many.result c.low.result a.w a.out.now c.in_ok-v.v c.put.new.out l.v l.out c.requires c.many.ensures c.low.ensures c.in_ok-v.ensures
    (listed_all a.m a.sorts.now c.in_ok-v.v c.put.new.out l.rest l.at l.v l.out c.requires l.invariant.1 (omega arith))
