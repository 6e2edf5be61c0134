-- The two stores leave the two bytes, whatever stood there.
use Rattle.blocks.proofs.Fronts.{two_list}
use Rattle.blocks.proofs.tail.Goals as goal

pub returns : goal.returns
returns c = two_list c.args.t.now _ _ c.requires
