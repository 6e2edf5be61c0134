use Rattle.laws.specs.Says.{Says}
use Rattle.stacks.proofs.RightFrameLaws.{Front}
use Rattle.stacks.proofs.zeros.Given as goal

abbrev pub invariant-loop-x : goal.invariant-loop-x
invariant-loop-x l = Says l.good (Front l.s l.x-index)
