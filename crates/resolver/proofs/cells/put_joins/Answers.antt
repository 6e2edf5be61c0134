-- Two cells at each turn.
use mathlib.Core.Path.{◌≡◌, refl, subst, ◌∙◌}
use Prim.Native.Nat.{ℕ}
use native.Mathlib.Omega.{arith}
use Rattle.resolver.specs.Writing.{Writes}
use Rattle.resolver.specs.Resolving.{joins}
use Rattle.resolver.proofs.Operands.{joins_none, joins_more}
use Rattle.resolver.proofs.cells.put_joins.Goals as goal

pub loop-init : goal.loop-init
loop-init c = ((omega arith, refl), joins_none c.args.c)

pub loop-preserved : goal.loop-preserved
loop-preserved c =
    let here = c.loop in
    ((omega arith, c.put-v.auto.out ∙ c.put-a.auto.out ∙ here.invariant.0.1), joins_more c.args.c here.counter here.invariant.1 c.put-a.ensures c.put-v.ensures)

pub shape_of-out : goal.shape_of-out
shape_of-out c = c.loop.invariant.0.1

pub returns : goal.returns
returns c =
    let e : c.loop.counter ≡ c.args.many = omega arith in
    subst (λ (k : ℕ). Writes (joins c.args.c k) c.args.w c.args.out.now c.loop.v c.loop.out) e c.loop.invariant.1
