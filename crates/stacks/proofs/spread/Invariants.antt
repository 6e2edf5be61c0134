use mathlib.Core.Path.{◌≡◌}
use Prim.Native.Nat.{ℕ, ◌<◌, ◌≤◌}
use lib.ListN.{length, get_or}
use Rattle.stacks.proofs.spread.Given as goal

abbrev pub invariant-loop-i : goal.invariant-loop-i
invariant-loop-i l = (l.i ≤ length l.out) × ((length l.out ≡ length l.initial.out) × ((j : ℕ) → j < l.i → get_or l.out j 0 ≡ get_or l.bytes j 0))
