-- The terms of the label are gone over at once, and then call by call.
use native.Mathlib.Omega.{arith}
use Prim.Native.Nat.{ℕ, min}
use mathlib.Core.Path.{◌∙◌, ap}
use Rattle.firing.proofs.Skipping.{skipped_none, skipped_more, skipped_all}
use Rattle.firing.proofs.past.Goals as goal

pub overflow_add-at : goal.overflow_add-at
overflow_add-at c = omega (arith, c.requires.1)

pub skip-m-requires : goal.skip-m-requires
skip-m-requires c = c.requires.0

pub overflow_add-a : goal.overflow_add-a
overflow_add-a c = omega (arith, c.requires, c.skip-m.ensures.1.1)

pub loop-i-init : goal.loop-i-init
loop-i-init c = let a = c.args in (
  omega arith,
  (
    omega (arith, c.requires, c.skip-m.ensures.1.1),
    skipped_none a.s.now a.funcs.now a.acts.now a.params.now a.at c.peek.result c.action_arity.result c.skip-m.result c.min-n.result c.peek.ensures c.action_arity.ensures.1 c.skip-m.ensures.0
        (c.min-n.ensures ∙ ap (λ (x : ℕ). min x 8) (c.wide.ensures.0 ∙ c.peek-2.ensures)),
  ),
)

pub overflow_add-a-in-loop-i : goal.overflow_add-a-in-loop-i
overflow_add-a-in-loop-i c = omega (arith, c.loop-i.invariant.1.0, c.min-n.ensures)

pub skip-a-requires : goal.skip-a-requires
skip-a-requires c = c.requires.0

pub loop-i-preserved : goal.loop-i-preserved
loop-i-preserved c = let a = c.args in let l = c.loop-i in (
  omega arith,
  (
    omega (arith, c.skip-a.ensures.1.1, l.invariant.1.0, c.requires.0),
    skipped_more a.s.now a.funcs.now a.acts.now a.params.now a.at c.min-n.result l.a l.i c.wide-in-loop-i.result c.parameters-k.result c.skip-a.result c.loop-i-test.true (c.wide-in-loop-i.ensures.0 ∙ c.peek-in-loop-i.ensures) c.parameters-k.ensures.1 c.skip-a.ensures.0 l.invariant.1.1,
  ),
)

pub returns : goal.returns
returns c = let a = c.args in let l = c.loop-i in (omega (arith, c.min.ensures), skipped_all a.s.now a.funcs.now a.acts.now a.params.now a.at c.min-n.result l.a l.i c.min.result (omega arith) c.min.ensures l.invariant.1.1)
