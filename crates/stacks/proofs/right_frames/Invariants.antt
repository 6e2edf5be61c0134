use Prim.Native.Nat.{ℕ, ◌*◌, ◌<◌, ◌≤◌}
use Rattle.pcrl.specs.Limits.{frame_width}
use Rattle.pcrl.specs.Table.{Table}
use Rattle.pcrl.specs.Stack.{RightFrame}
use Rattle.stacks.specs.Known.{Known}
use Rattle.stacks.specs.Lent.{frame_bytes, frame_at}
use Rattle.stacks.proofs.right_frames.Given as goal

abbrev pub invariant-loop-i : goal.invariant-loop-i
invariant-loop-i l = (l.i ≤ l.depth) × ((T : Table) → Known T l.s l.sizes l.params → (j : ℕ) → j < l.i → RightFrame frame_width T (frame_at frame_width l.frames (j * frame_bytes frame_width)))
