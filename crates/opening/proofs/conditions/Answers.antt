-- Each condition stands where the one before it ends.
use native.Mathlib.Omega.{arith}
use Prim.Native.Nat.{ℕ, ◌+◌, min}
use mathlib.Core.Path.{refl, ◌∙◌, ap}
use lib.ListN.{length-set}
use Rattle.pcrl.specs.Limits.{max_conditions}
use Rattle.opening.proofs.Standing.{gone_none, gone_more, gone_all}
use Rattle.opening.proofs.conditions.Goals as goal

pub overflow_add-a : goal.overflow_add-a
overflow_add-a c = omega (arith, c.requires.1.0)

pub loop-i-init : goal.loop-i-init
loop-i-init c = (omega arith, (omega (arith, c.requires.1.0), (refl, (refl, (refl, gone_none c.args.s.now c.args.funcs.now c.args.at c.args.p c.args.z.at c.min-n.result _ _ _ (c.min-n.ensures ∙ ap (λ (x : ℕ). min x max_conditions) (c.wide.ensures.0 ∙ c.peek.ensures)))))))

pub overflow_add-b : goal.overflow_add-b
overflow_add-b c = omega (arith, c.loop-i.invariant.1.0, c.min-n.ensures)

pub skip-end-requires : goal.skip-end-requires
skip-end-requires c = c.requires.0

pub bounds-froms-i : goal.bounds-froms-i
bounds-froms-i c = omega (arith, c.min-n.ensures)

pub bounds-ends-i : goal.bounds-ends-i
bounds-ends-i c = omega (arith, c.min-n.ensures)

pub grain-requires : goal.grain-requires
grain-requires c = c.requires.1.1

pub narrow-requires : goal.narrow-requires
narrow-requires c = c.grain.ensures.1

pub bounds-blocks-i : goal.bounds-blocks-i
bounds-blocks-i c = omega (arith, c.min-n.ensures)

pub loop-i-preserved : goal.loop-i-preserved
loop-i-preserved c = let a = c.args in let l = c.loop-i in let v = l.invariant in (
  omega arith,
  (
    omega (arith, c.skip-end.ensures.1.1, c.requires.0),
    (
      simp length-set v.1.1.0,
      (
        simp length-set v.1.1.1.0,
        (
          simp length-set v.1.1.1.1.0,
          gone_more a.s.now a.funcs.now a.at a.p a.z.at c.min-n.result l.froms l.ends l.blocks l.reach l.low l.a l.i (l.a + 1) c.skip-end.result c.variables-v.result.high c.variables-v.result.low c.narrow.result c.max-reach.result c.min-low.result
              c.loop-i-test.true v.1.1.0 v.1.1.1.0 v.1.1.1.1.0 (omega (arith, c.min-n.ensures)) refl c.skip-end.ensures.0 (λ x y. (c.variables-v.ensures x y).0) (λ x y. (c.variables-v.ensures x y).1) (c.narrow.ensures ∙ c.grain.ensures.0) c.max-reach.ensures c.min-low.ensures v.1.1.1.1.1,
        ),
      ),
    ),
  ),
)

pub returns : goal.returns
returns c = (
  omega (arith, c.min-n.ensures),
  (
    omega (arith, c.loop-i.invariant.1.0, c.min-n.ensures),
    λ S Γ cs rest known short ev few here.
        gone_all c.args.s.now c.args.funcs.now c.args.at c.args.p c.args.z.at _ c.loop-i.i (omega arith) c.loop-i.invariant.1.1.1.1.1 S Γ cs rest known short ev few here,
  ),
)
