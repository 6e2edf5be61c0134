-- What is known so far is the answer for the bytes passed.
use Rattle.stacks.proofs.RightFrameLaws.{one_more_zero}
use Rattle.stacks.proofs.zeros.Goals as goal

pub loop-x-preserved : goal.loop-x-preserved
loop-x-preserved c = one_more_zero c.args.s.now c.loop-x.x-index c.loop-x.good c.loop-x.invariant
