-- A variable below the first p leaves what was found.
use native.Mathlib.Omega.{arith}
use Rattle.evaluation.proofs.Bytes.{lowered_yes, lowered_no}
use Rattle.evaluation.proofs.lower.Goals as goal

pub returns-then-p-n : goal.returns-then-p-n
returns-then-p-n c = let a = c.args in lowered_yes a.p a.n a.m c.min.result (omega arith) c.min.ensures

pub returns : goal.returns
returns c = let a = c.args in lowered_no a.p a.n a.m (omega arith)
