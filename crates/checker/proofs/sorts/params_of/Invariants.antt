use Prim.Native.Nat.{◌*◌, ◌≤◌}
use mathlib.Core.Path.{◌≡◌}
use lib.ListN.{length}
use Rattle.pcrl.specs.Limits.{frame_width}
use Rattle.nodes.specs.Held.{proc_width}
use Rattle.nodes.specs.Scoped.{max_scope}
use Rattle.checker.proofs.Sheets.{ParamsSoFar}
use Rattle.checker.proofs.sorts.params_of.Given as goal

abbrev pub invariant-loop-i : goal.invariant-loop-i
invariant-loop-i l = ((l.i ≤ frame_width) × (length l.sorts ≡ max_scope)) × ParamsSoFar l.procs (proc_width * l.k) l.i l.sorts
