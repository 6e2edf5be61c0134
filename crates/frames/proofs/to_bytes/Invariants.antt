use mathlib.Core.Path.{◌≡◌}
use Prim.Native.Nat.{◌≤◌}
use lib.ListN.{length}
use Rattle.pcrl.specs.Limits.{frame_width, stack_limit}
use Rattle.stacks.specs.Lent.{frames_in}
use Rattle.frames.specs.Lists.{lent_frames}
use Rattle.frames.proofs.Over.{upto}
use Rattle.frames.proofs.to_bytes.Given as goal

abbrev pub invariant-loop-i : goal.invariant-loop-i
invariant-loop-i l = (l.i ≤ stack_limit) × ((length l.bytes ≡ length l.initial.bytes) × (frames_in frame_width l.bytes ≡ upto (lent_frames l.s.frames) (frames_in frame_width l.initial.bytes) l.i))
