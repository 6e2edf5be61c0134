use lib.ListN.{length, drop, take, get_or}
use mathlib.Core.List.{◌∷◌}
use Prim.Native.Nat.{ℕ, ◌+◌, ◌-◌, ◌≤◌}
use mathlib.Core.Path.{◌≡◌}
use Rattle.evaluation.specs.Run.{run}
use Rattle.evaluation.proofs.value.Given as goal

abbrev pub invariant-loop-i : goal.invariant-loop-i
invariant-loop-i l = (l.at ≤ l.i) × ((l.i ≤ l.end) × ((length l.stack ≡ 48) × ((48 ≤ l.t + (l.end - l.i)) × ((l.t ≤ 48) × ((m : ℕ) → get_or (l.x ∷ drop l.t l.stack) m 0 ≡ get_or (run l.s l.funcs l.e (take (l.end - l.i) (drop l.i l.s))) m 0)))))
