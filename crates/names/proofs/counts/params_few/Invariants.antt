use Prim.Native.Nat.{◌+◌, ◌-◌, ◌≤◌}
use lib.ListN.{length}
use Rattle.pcrl.specs.Limits.{frame_width}
use Rattle.names.specs.Items.{item_count}
use Rattle.names.proofs.Lists.{Checked}
use Rattle.names.proofs.counts.params_few.Given as goal

abbrev pub invariant-loop-p : goal.invariant-loop-p
invariant-loop-p l = Checked (λ p. item_count l.cells 3 (p + 2) (frame_width + 1) ≤ frame_width) l.procs l.p-index
