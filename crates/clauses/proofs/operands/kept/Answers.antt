-- The fourth bit of a mark's item says whether a bracket closes.
use Rattle.clauses.proofs.Marks.{kept_bracket, kept_plain}
use Rattle.clauses.proofs.operands.kept.Goals as goal

pub returns-then-o-eq1 : goal.returns-then-o-eq1
returns-then-o-eq1 c = λ m b bs e. kept_bracket c.args.o m b bs e c.if-o-eq1.true

pub returns : goal.returns
returns c = λ m b bs e. kept_plain c.args.o m b bs e c.if-o-eq1.false
