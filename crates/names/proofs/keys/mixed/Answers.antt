-- One step of the fold.
use Rattle.names.specs.NameKeys.{mix}
use Rattle.names.proofs.keys.mixed.Goals as goal

pub returns : goal.returns
unfolding mix
returns c = cc
