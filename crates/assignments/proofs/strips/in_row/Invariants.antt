use Prim.Native.Nat.{ℕ, ◌+◌, ◌*◌, ◌≤◌, ◌<◌}
use mathlib.Core.Path.{◌≡◌}
use mathlib.Core.Bool.{Bool}
use lib.Dec.{ltb}
use lib.ListN.{get_or}
use Rattle.assignments.proofs.InRows.{Lane}
use Rattle.assignments.proofs.strips.in_row.Given as goal

abbrev pub invariant-loop-i : goal.invariant-loop-i
invariant-loop-i l = ((l.left ≤ l.k) × (l.m ≡ l.g)) × ((acc : ℕ → Bool) (says : (i x : ℕ) → i < l.size → l.j + i * l.g ≤ x → x < l.j + i * l.g + l.g → acc x ≡ ltb 0 (get_or l.lanes i 0)) → Lane l.lanes l.size l.g l.j l.k acc says l.i l.left)
