-- By the number of the operator.
use Rattle.clauses.proofs.Marks.{operator_equal, operator_and, operator_or}
use Rattle.clauses.proofs.operands.joint.Goals as goal

pub returns-then-n-eq-EQUAL_CODE : goal.returns-then-n-eq-EQUAL_CODE
returns-then-n-eq-EQUAL_CODE c = operator_equal c.args.n c.if-n-eq-EQUAL_CODE.true

pub returns-then-n-eq-AND_CODE : goal.returns-then-n-eq-AND_CODE
returns-then-n-eq-AND_CODE c = operator_and c.args.n c.if-n-eq-AND_CODE.true

pub returns : goal.returns
returns c = operator_or c.args.n c.requires c.if-n-eq-EQUAL_CODE.false c.if-n-eq-AND_CODE.false
