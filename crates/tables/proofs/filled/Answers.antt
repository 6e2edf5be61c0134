-- The count of blocks, and zeros behind the end.
use Rattle.pcrl.specs.Blocks.{blocks_for}
use Rattle.tables.proofs.Answer.{fewest}
use Rattle.tables.proofs.filled.Goals as goal

pub returns-then-s-end : goal.returns-then-s-end
unfolding blocks_for
returns-then-s-end c = λ q. c.if-s-end.true q.0

pub returns : goal.returns
unfolding blocks_for
returns c = fewest c.zeros.result c.args.s.now c.args.end c.if-s-end.false c.zeros.ensures
