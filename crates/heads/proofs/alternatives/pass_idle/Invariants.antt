use Prim.Native.Nat.{ℕ, ◌-◌, ◌≤◌, ◌<◌}
use lib.ListN.{length}
use Rattle.heads.specs.Memory.{Reaches}
use Rattle.heads.proofs.alternatives.pass_idle.Given as goal

abbrev pub invariant-loop-q : goal.invariant-loop-q
invariant-loop-q l = (l.at ≤ l.p) × (l.p < length l.cells) × ((heads : ℕ) → Reaches l.cells l.counts l.base heads l.at l.p 0)

abbrev pub decreases-loop-q : goal.decreases-loop-q
decreases-loop-q l = length l.cells - l.p
