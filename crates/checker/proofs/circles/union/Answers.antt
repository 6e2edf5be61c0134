-- `union` is the union of two sets.
use Rattle.nodes.proofs.Bits.{or_bit}
use Rattle.checker.proofs.circles.union.Goals as goal

pub returns : goal.returns
returns c = λ i. or_bit i c.args.a c.args.b
