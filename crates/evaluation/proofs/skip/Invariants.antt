use Prim.Native.Nat.{◌+◌, ◌-◌, ◌*◌, ◌≤◌, max}
use mathlib.Core.Path.{◌≡◌}
use lib.ListN.{length, drop}
use Rattle.evaluation.specs.Run.{extent}
use Rattle.evaluation.proofs.skip.Given as goal

abbrev pub invariant-loop-i : goal.invariant-loop-i
invariant-loop-i l = (l.at ≤ l.i) × ((l.i ≤ max l.at (length l.s)) × ((l.need + 2 * l.at ≤ 255 + 2 * l.i) × (l.i + extent l.s l.funcs (drop l.i l.s) l.need ≡ l.at + extent l.s l.funcs (drop l.at l.s) l.n)))
