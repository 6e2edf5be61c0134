-- The frame in five bytes of its own, put over those of frame i.
use native.Mathlib.Omega.{arith}
use mathlib.Core.Path.{ap, ◌∙◌}
use lib.ListN.{set}
use Rattle.pcrl.specs.Limits.{frame_width}
use Rattle.stacks.specs.Lent.{frames_in}
use Rattle.frames.proofs.FrameLists.{own_bytes}
use Rattle.frames.proofs.put.Goals as goal

pub returns : goal.returns
returns c = c.put.ensures ∙ ap (set (frames_in frame_width c.args.bytes.now) c.args.i) (own_bytes c.args.f (omega arith))
