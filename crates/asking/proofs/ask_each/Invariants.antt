use mathlib.Core.Path.{◌≡◌}
use Prim.Native.Nat.{◌≤◌}
use lib.ListN.{length}
use Rattle.pcrl.specs.Limits.{frame_width, stack_limit}
use Rattle.pcrl.specs.Table.{Table}
use Rattle.pcrl.specs.Stack.{RightFrames}
use Rattle.stacks.specs.Lent.{frames_in}
use Rattle.firing.specs.Known.{KnownTable, ActsAt}
use Rattle.lettering.specs.SortNames.{NamesIn}
use Rattle.asking.proofs.InTurn.{Going}
use Rattle.asking.proofs.ask_each.Given as goal

abbrev pub invariant-loop-i : goal.invariant-loop-i
invariant-loop-i l = ((length l.frames ≡ length l.initial.frames) × ((length l.out ≡ length l.initial.out) × ((l.d ≤ stack_limit) × (l.i ≤ length l.ks)))) × ((T : Table) → KnownTable T l.s l.funcs l.acts l.params l.rows → ActsAt T.sig l.s l.acts l.actions → NamesIn T.sig l.names → RightFrames frame_width stack_limit T (frames_in frame_width l.initial.frames) l.depth → Going T l.ks (frames_in frame_width l.initial.frames) l.depth l.initial.out l.i (frames_in frame_width l.frames) l.d l.out)
