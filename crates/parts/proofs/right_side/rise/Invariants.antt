use Prim.Native.Nat.{◌≤◌}
use Rattle.parts.specs.Walking.{Rises}
use Rattle.parts.proofs.right_side.rise.Given as goal

abbrev pub invariant-loop-need : goal.invariant-loop-need
invariant-loop-need l = (l.level ≤ l.s.level) × Rises l.left l.base l.s (record { at = l.s.at; level = l.level; need = l.need; count = l.s.count; w = l.s.w })

abbrev pub decreases-loop-need : goal.decreases-loop-need
decreases-loop-need l = l.level
