-- The operator by its byte, and its value by whether the first or both are false.
use native.Mathlib.Omega.{arith}
use mathlib.Core.Path.{◌∙◌}
use Rattle.evaluation.proofs.Operators.{worth_not, worth_equal, worth_and, worth_or, not_by, same_by, and_no, and_yes, or_no, or_yes}
use Rattle.evaluation.proofs.operator_worth.Goals as goal

pub returns-then-n-eq-NOT : goal.returns-then-n-eq-NOT
returns-then-n-eq-NOT c = let a = c.args in worth_not a.n a.x a.y a.z _ (omega arith) (c.from.ensures ∙ not_by a.x)

pub returns-then-n-eq-EQUAL : goal.returns-then-n-eq-EQUAL
returns-then-n-eq-EQUAL c = let a = c.args in worth_equal a.n a.x a.y a.z _ (omega arith) (c.from-then-n-eq-EQUAL.ensures ∙ same_by a.y a.z)

pub returns-then-x-eq0 : goal.returns-then-x-eq0
returns-then-x-eq0 c = let a = c.args in worth_and a.n a.x a.y a.z 0 (omega arith) (and_no a.x a.y (omega arith))

pub returns-then-n-eq-AND : goal.returns-then-n-eq-AND
returns-then-n-eq-AND c = let a = c.args in worth_and a.n a.x a.y a.z a.y (omega arith) (and_yes a.x a.y (λ h. omega arith))

pub returns-then-x-eq0-2 : goal.returns-then-x-eq0-2
returns-then-x-eq0-2 c = let a = c.args in worth_or a.n a.x a.y a.z a.y (omega arith) (λ h. omega arith) (λ h. omega arith) (λ h. omega arith) (or_no a.x a.y (omega arith))

pub returns : goal.returns
returns c = let a = c.args in worth_or a.n a.x a.y a.z 1 (omega arith) (λ h. omega arith) (λ h. omega arith) (λ h. omega arith) (or_yes a.x a.y (λ h. omega arith))
