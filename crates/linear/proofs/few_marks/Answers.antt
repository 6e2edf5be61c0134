-- None of the first k rows has too many marks.
use mathlib.Core.Path.{◌∙◌, ap}
use Prim.Native.Nat.{ℕ}
use native.Mathlib.Omega.{arith}
use Rattle.pcrl.specs.Parts.{count}
use Rattle.marking.specs.Marks.{bits}
use Rattle.linear.proofs.Marks.{few_more, few_not, few_all}
use Rattle.linear.proofs.few_marks.Goals as goal

pub loop-k-init : goal.loop-k-init
loop-k-init c = (omega arith, λ j h. absurd (omega arith))

pub overflow_mul-k : goal.overflow_mul-k
overflow_mul-k c = omega (arith, c.requires)

pub returns-then-many-gt-FRAME_WIDTH : goal.returns-then-many-gt-FRAME_WIDTH
returns-then-many-gt-FRAME_WIDTH c = let a = c.args in let l = c.loop-k in few_not a.rows.now a.n l.k c.many.result (omega arith) (c.many.ensures ∙ ap (λ (x : ℕ). count (bits 32 x)) c.peek.ensures) (omega arith)

pub loop-k-preserved : goal.loop-k-preserved
loop-k-preserved c = let a = c.args in let l = c.loop-k in (omega arith, few_more a.rows.now l.k c.many.result (c.many.ensures ∙ ap (λ (x : ℕ). count (bits 32 x)) c.peek.ensures) (omega arith) l.invariant.1)

pub returns : goal.returns
returns c = let a = c.args in let l = c.loop-k in few_all a.rows.now a.n l.k (omega arith) l.invariant.1
