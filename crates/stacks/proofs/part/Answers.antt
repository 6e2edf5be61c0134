-- The rest from a place on, cut off after n.
use Rattle.stacks.proofs.Parts.{rest_is, part_is}
use Rattle.stacks.proofs.part.Goals as goal

pub returns : goal.returns
returns g c = part_is c.args.s.now _ c.args.at c.args.n _ (rest_is c.args.s.now c.args.at _ c.min-from.ensures) c.min-count.ensures
