use mathlib.Core.Path.{◌≡◌}
use Prim.Native.Nat.{◌≤◌}
use lib.ListN.{length}
use Rattle.pcrl.specs.Limits.{frame_width, stack_limit}
use Rattle.stacks.specs.Lent.{frames_in}
use Rattle.frames.specs.Lists.{lent_frames}
use Rattle.frames.proofs.Over.{upto}
use Rattle.frames.proofs.from_bytes.Given as goal

abbrev pub invariant-loop-i : goal.invariant-loop-i
invariant-loop-i l = (l.i ≤ stack_limit) × ((length l.initial.t.frames ≡ stack_limit) × (lent_frames l.t.frames ≡ upto (frames_in frame_width l.bytes) (lent_frames l.initial.t.frames) l.i))
