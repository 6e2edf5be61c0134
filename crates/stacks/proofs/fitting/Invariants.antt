use Prim.Native.Nat.{ℕ, ◌<◌, ◌≤◌}
use lib.ListN.{length, get_or}
use Rattle.stacks.specs.Fitting.{FitsAt}
use Rattle.stacks.proofs.fitting.Given as goal

abbrev pub invariant-loop-i : goal.invariant-loop-i
invariant-loop-i l = (l.i ≤ length l.values) × ((length l.sorts ≤ length l.values) × ((j : ℕ) → j < l.i → FitsAt l.sizes l.sorts j (get_or l.values j 0)))
