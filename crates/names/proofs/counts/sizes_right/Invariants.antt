use Prim.Native.Nat.{◌+◌, ◌-◌}
use lib.ListN.{length}
use Rattle.pcrl.specs.Limits.{max_size}
use Rattle.pcrl.specs.Tests.{Between}
use Rattle.names.specs.Items.{numeral_at}
use Rattle.names.proofs.Lists.{Checked}
use Rattle.names.proofs.counts.sizes_right.Given as goal

abbrev pub invariant-loop-p : goal.invariant-loop-p
invariant-loop-p l = Checked (λ p. Between 1 max_size (numeral_at l.cells (p + 2))) l.sorts l.p-index
