use Prim.Native.Nat.{◌≤◌}
use mathlib.Core.Path.{◌≡◌}
use lib.ListN.{length}
use Rattle.heads.proofs.Parameters.{Params}
use Rattle.heads.proofs.params.put_params.Given as goal

abbrev pub invariant-loop-i : goal.invariant-loop-i
invariant-loop-i l = ((l.i ≤ l.n) × (l.k ≤ l.i) × (length l.slots ≡ length l.initial.slots)) × Params l.m l.i l.k l.rest l.slots
