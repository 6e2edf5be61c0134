use Prim.Native.Nat.{◌+◌, ◌*◌, ◌≤◌}
use mathlib.Core.Path.{◌≡◌}
use lib.ListN.{length, take}
use Rattle.contexts.specs.Spots.{arrays}
use Rattle.heads.specs.Stack.{later_cells, Steady}
use Rattle.heads.specs.Progress.{start, Onward}
use Rattle.heads.specs.Memory.{Remembers}
use Rattle.heads.specs.Lent.{SameArrays}
use Rattle.heads.proofs.Standing.{weigh}
use Rattle.heads.proofs.walk.+leaf_next_turn_walk.Given as goal

-- each call may follow one call less
abbrev pub decreases-leaf : goal.decreases-leaf
decreases-leaf l = 3 * l.g.s.fuel

abbrev pub decreases-next_turn : goal.decreases-next_turn
decreases-next_turn l = 3 * l.g.s.fuel + 1

abbrev pub decreases-walk : goal.decreases-walk
decreases-walk l = 3 * l.s0.fuel + 2

abbrev pub invariant-walk-loop-s : goal.invariant-walk-loop-s
invariant-walk-loop-s l =
    ((length l.slots ≡ length l.initial.slots) × (length l.out ≡ length l.initial.out))
    × ((l.w ≤ l.v) × (l.v ≤ length l.initial.out) × (take (later_cells * l.q0) l.work.later.now ≡ take (later_cells * l.q0) l.initial.work.later.now))
    × Steady (length l.work.calls.now) (length l.slots) l.initial.s.fuel l.q0 l.s l.q l.work.later.now
    × (Onward l.sheet.cells.now l.sheet.starts.now l.sheet.counts.now l.sheet.firsts.now (start l.initial.s (arrays l.initial.slots l.initial.work.vars.now l.initial.work.conds.now l.initial.work.calls.now) l.w l.initial.out l.heads0 l.q0 (length l.initial.work.later.now)) l.s l.heads l.left l.q l.v (arrays l.slots l.work.vars.now l.work.conds.now l.work.calls.now) l.work.later.now l.out)
    × Remembers l.sheet.cells.now l.sheet.counts.now l.work.remembered.now
    × SameArrays l.initial.work l.work

abbrev pub decreases-walk-loop-s : goal.decreases-walk-loop-s
decreases-walk-loop-s l = weigh (length l.sheet.cells.now) l.left l.s.at
