use mathlib.Core.Path.{◌≡◌}
use Prim.Native.Nat.{◌-◌, ◌≤◌, max}
use lib.ListN.{length, get_or}
use Rattle.lettering.specs.Named.{funcs_place, vars_place}
use Rattle.clauses.proofs.TermSteps.{Going}
use Rattle.clauses.proofs.data.put_term.Given as goal

abbrev pub invariant-loop-i : goal.invariant-loop-i
invariant-loop-i l = (l.from ≤ l.i) × ((l.i ≤ max l.from (length l.s)) × ((l.p ≤ length l.out) × ((length l.out ≡ length l.initial.out) × Going l.s l.funcs (get_or l.l funcs_place 0) (get_or l.l vars_place 0) l.from l.initial.out l.at l.i l.out l.p l.opens l.place)))

abbrev pub decreases-loop-i : goal.decreases-loop-i
decreases-loop-i l = length l.s - l.i
