-- The four stores leave the four bytes, whatever stood there.
use Rattle.blocks.proofs.Fronts.{four_list}
use Rattle.blocks.proofs.head.Goals as goal

pub returns : goal.returns
returns c = four_list c.args.h.now _ _ _ _ c.requires
