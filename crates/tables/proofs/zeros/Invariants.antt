use Prim.Native.Nat.{◌≤◌, ◌<◌}
use mathlib.Core.Path.{◌≡◌}
use lib.ListN.{drop, length}
use Rattle.laws.specs.Says.{Says}
use Rattle.tables.proofs.Answer.{Zeros}
use Rattle.tables.proofs.zeros.Given as goal

abbrev pub invariant-loop-i : goal.invariant-loop-i
invariant-loop-i l = (l.i ≤ length l.s) × ((l.at ≤ length l.s → l.at ≤ l.i) × ((length l.s < l.at → l.i ≡ length l.s) × Says l.good (Zeros (drop l.i l.s))))
