use mathlib.Core.Path.{◌≡◌}
use mathlib.Core.List.{List}
use Prim.Native.Nat.{◌-◌, ◌≤◌}
use lib.ListN.{length}
use Rattle.pcrl.specs.Limits.{frame_width, stack_limit}
use Rattle.pcrl.specs.Stack.{Frame}
use Rattle.stacks.specs.Lent.{frames_at, frames_in}
use Rattle.stacks.proofs.Filling.{filling}
use Rattle.stacks.proofs.replace.Given as goal

abbrev pub invariant-loop-i : goal.invariant-loop-i
invariant-loop-i l = (l.i ≤ l.n) × ((length l.frames ≡ length l.initial.frames) × ((low : List Frame) → length low ≡ l.depth - 1 → frames_in frame_width l.initial.frames ≡ filling frame_width stack_limit low l.n 0 (frames_at frame_width l.n l.others) → frames_in frame_width l.frames ≡ filling frame_width stack_limit low l.n l.i (frames_at frame_width l.n l.others)))
