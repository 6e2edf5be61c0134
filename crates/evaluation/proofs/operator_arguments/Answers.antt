-- `!` takes one value, `==` three, the others two.
use native.Mathlib.Omega.{arith}
use Rattle.evaluation.proofs.Operators.{count_not, count_equal, count_other}
use Rattle.evaluation.proofs.operator_arguments.Goals as goal

pub returns-then-n-eq-NOT : goal.returns-then-n-eq-NOT
returns-then-n-eq-NOT c = (count_not c.args.n c.if-n-eq-NOT.true, omega arith)

pub returns-then-n-eq-EQUAL : goal.returns-then-n-eq-EQUAL
returns-then-n-eq-EQUAL c = (count_equal c.args.n c.if-n-eq-EQUAL.true, omega arith)

pub returns : goal.returns
returns c = (count_other c.args.n (omega arith) c.if-n-eq-NOT.false c.if-n-eq-EQUAL.false, omega arith)
