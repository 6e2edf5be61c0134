use mathlib.Core.Path.{◌≡◌}
use Prim.Native.Nat.{◌≤◌}
use lib.ListN.{length}
use Rattle.pcrl.specs.Limits.{frame_width, stack_limit}
use Rattle.pcrl.specs.Table.{Table}
use Rattle.pcrl.specs.Right.{RightTable}
use Rattle.pcrl.specs.Stack.{frames_of}
use Rattle.pcrl.specs.Answers.{start_stack}
use Rattle.tables.specs.Indexed.{Indexed}
use Rattle.stacks.specs.Lent.{frames_in}
use Rattle.walker.proofs.Walking.{Walking}
use Rattle.walker.proofs.put_walk.Given as goal

abbrev pub invariant-loop-i : goal.invariant-loop-i
invariant-loop-i l = ((length l.frames ≡ length l.initial.frames) × ((length l.out ≡ length l.initial.out) × ((l.w.depth ≤ stack_limit) × ((l.at ≤ length l.out) × (l.w.taken ≡ l.i))))) × ((T : Table) → RightTable T → Indexed T l.s l.index → frames_in frame_width l.initial.frames ≡ frames_of frame_width stack_limit (start_stack frame_width T) → Walking T l.initial.out (frames_in frame_width l.frames) l.w.depth l.i l.out l.at)
