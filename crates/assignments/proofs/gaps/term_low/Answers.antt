-- The lowest of the variables that its term names.
use Rattle.assignments.proofs.gaps.term_low.Goals as goal

pub returns : goal.returns
returns c = λ some inside. (c.variables-v.ensures some inside).1
