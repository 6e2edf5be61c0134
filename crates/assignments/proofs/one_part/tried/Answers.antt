-- A condition is evaluated only where its block is larger than what is known.
use native.Mathlib.Omega.{arith}
use mathlib.Core.Path.{sym, ◌∙◌}
use lib.ListN.{get_or}
use Rattle.evaluation.specs.Run.{top, run}
use Rattle.assignments.specs.Conditions.{code, holds}
use Rattle.assignments.proofs.Blocks.{tried_known, tried_holds, tried_fails}
use Rattle.assignments.proofs.one_part.tried.Goals as goal

pub returns-then-block-out : goal.returns-then-block-out
returns-then-block-out c = λ x y z. let a = c.args in tried_known (holds a.s.now a.funcs.now a.e.now a.from a.end) a.block a.out (omega arith)

pub returns-then-s-from : goal.returns-then-s-from
returns-then-s-from c = λ x y z. absurd (omega arith)

pub returns-then-v-s : goal.returns-then-v-s
returns-then-v-s c = λ x y z. let a = c.args in
    tried_holds (top (run a.s.now a.funcs.now a.e.now (code a.s.now a.from a.end))) (get_or a.s.now a.from 0) a.block a.out (omega arith) (sym (c.value-v.ensures x y z) ∙ c.if-v-s.true)

pub returns : goal.returns
returns c = λ x y z. let a = c.args in
    tried_fails (top (run a.s.now a.funcs.now a.e.now (code a.s.now a.from a.end))) (get_or a.s.now a.from 0) a.block a.out (omega arith) (λ h. c.if-v-s.false (c.value-v.ensures x y z ∙ h))
