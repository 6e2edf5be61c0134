-- `heads::remembered::free` meets its contract.
use Prim.Native.Nat.{◌≤◌}
use Rattle.heads.specs.Memory.{entries}
use Rattle.heads.proofs.remembered.free.Given as goal

abbrev pub invariant-loop-i : goal.invariant-loop-i
invariant-loop-i l = l.i ≤ entries
