-- What is known of the first i conditions is known of one more.
use mathlib.Core.Path.{subst, ◌≡◌, ◌∙◌}
use native.Mathlib.Omega.{arith}
use Prim.Native.Nat.{ℕ}
use lib.ListN.{get_or}
use Rattle.assignments.specs.Conditions.{holds, Tested}
use Rattle.assignments.specs.Parting.{asked}
use Rattle.assignments.proofs.Blocks.{tested_none, tested_more, tried_asked}
use Rattle.assignments.proofs.one_part.test.Goals as goal

pub loop-i-init : goal.loop-i-init
loop-i-init c = let a = c.args in (omega arith, λ r. tested_none (asked a.s.now a.funcs.now a.c.now.froms a.c.now.ends a.c.now.blocks a.e.now) a.c.now.blocks a.least)

pub loop-i-preserved : goal.loop-i-preserved
loop-i-preserved c = let a = c.args in let i = c.loop-i.i in (
  omega arith,
  λ r. let w = r i c.loop-i-test.true in
      tested_more (asked a.s.now a.funcs.now a.c.now.froms a.c.now.ends a.c.now.blocks a.e.now) a.c.now.blocks a.least i c.loop-i.out c.tried-out.result (c.loop-i.invariant.1 r)
      (c.tried-out.ensures w.some_term w.short w.inside ∙ tried_asked (holds a.s.now a.funcs.now a.e.now (get_or a.c.now.froms i 0) (get_or a.c.now.ends i 0)) (get_or a.c.now.blocks i 0) c.loop-i.out),
)

pub returns : goal.returns
returns c = λ r. let a = c.args in let e : c.loop-i.i ≡ a.c.now.count = omega arith in
    subst (λ (k : ℕ). Tested (asked a.s.now a.funcs.now a.c.now.froms a.c.now.ends a.c.now.blocks a.e.now) a.c.now.blocks a.least k c.loop-i.out) e (c.loop-i.invariant.1 r)
