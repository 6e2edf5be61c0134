use Prim.Native.Nat.{◌+◌, ◌-◌, ◌≤◌}
use lib.ListN.{length}
use Rattle.counting.specs.Limits.{most_heads, row}
use Rattle.counting.proofs.Laws.{CountLeft}
use Rattle.counting.proofs.+count.Given as goal

-- the cells left fall
abbrev pub decreases-count : goal.decreases-count
decreases-count l = length l.cells.now - l.at

abbrev pub invariant-loop-need : goal.invariant-loop-need
invariant-loop-need l = ((l.at ≤ l.p) × (l.need + l.at ≤ 1 + l.p) × (l.n ≤ most_heads) × (l.m ≤ most_heads)) × CountLeft (row l.base l.counts) l.cells l.at l.p l.need l.n l.m

abbrev pub decreases-loop-need : goal.decreases-loop-need
decreases-loop-need l = length l.cells - l.p
