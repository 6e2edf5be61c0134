use mathlib.Core.List.{map}
use Prim.Native.Nat.{◌+◌, ◌-◌, ◌≤◌}
use lib.ListN.{length, take}
use Rattle.names.specs.NameCells.{byte_of}
use Rattle.names.specs.Items.{numeral_at}
use Rattle.names.proofs.Lists.{Copied}
use Rattle.names.proofs.rows.sizes.Given as goal

abbrev pub invariant-loop-i : goal.invariant-loop-i
invariant-loop-i l = (l.i ≤ length l.sorts) × Copied 1 l.i (map (λ p. byte_of (numeral_at l.cells (p + 2))) (take l.i l.sorts)) l.initial.out l.out
