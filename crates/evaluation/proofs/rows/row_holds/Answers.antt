-- The rows of the term, and the lanes of the last of them.
use native.Mathlib.Omega.{arith}
use Rattle.evaluation.proofs.LaneLaws.{kept_as}
use Rattle.evaluation.proofs.rows.row_holds.Goals as goal

pub returns-in_err-t : goal.returns-in_err-t
returns-in_err-t c = rw c.from_residual.ensures (λ p q h k w z. let t = c.in_err-t.ensures.1 h k w z in (t.0, (t.1.0, tt)))

pub returns : goal.returns
returns c = λ p q h k w z. let t = c.in_ok-t.ensures.1 h k w z in (t.0, (t.1.0, kept_as _ _ _ _ _ _ _ (λ i l. t.1.1 i l) c.keep.ensures))
