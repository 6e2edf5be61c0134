-- All 64 frames of 64, or none.
use native.Mathlib.Omega.{arith}
use mathlib.Core.Path.{sym, ◌∙◌}
use Rattle.frames.proofs.Over.{taken_all, taken_none}
use Rattle.frames.proofs.prepare.Goals as goal
use Rattle.frames.proofs.prepare.Goals.{then-n-eq-STACK_LIMIT, else-n-eq-STACK_LIMIT}

pub returns : goal.returns
returns c = (
  elim c.if-n-eq-STACK_LIMIT.branch [
    | then-n-eq-STACK_LIMIT w ↦ w.result-is ∙ sym (taken_all _ (omega (arith, w.if-n-eq-STACK_LIMIT)))
    | else-n-eq-STACK_LIMIT w ↦ w.result-is ∙ sym (taken_none _ (λ e. omega (arith, w.if-n-eq-STACK_LIMIT)))
  ],
  c.empty.ensures,
)
