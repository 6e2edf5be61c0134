-- By the four marks.
use native.Mathlib.Omega.{arith}
use Rattle.clauses.proofs.Marks.{first_last, first_other}
use Rattle.clauses.proofs.operands.first_place.Goals as goal

pub returns-then-m-eq-EQUAL_MARK : goal.returns-then-m-eq-EQUAL_MARK
returns-then-m-eq-EQUAL_MARK c = λ k e. first_last c.args.m k e c.if-m-eq-EQUAL_MARK.true

pub returns : goal.returns
returns c = λ k e. omega (arith, first_other c.args.m k e c.requires c.if-m-eq-EQUAL_MARK.false)
