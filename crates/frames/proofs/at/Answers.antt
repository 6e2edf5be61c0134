-- Five bytes are a frame.
use mathlib.Core.Path.{refl}
use Rattle.pcrl.specs.Lists.{tabulate}
use Rattle.stacks.specs.Lent.{frame_at}
use Rattle.frames.specs.Lists.{frame_of}
use Rattle.frames.proofs.at.Goals as goal

pub returns : goal.returns
unfolding frame_at tabulate frame_of
returns c = refl
