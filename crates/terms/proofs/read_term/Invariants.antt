use mathlib.Core.Path.{◌≡◌}
use Prim.Native.Nat.{◌≤◌}
use lib.ListN.{drop, length}
use Rattle.pcrl.specs.Decode.{read_term, read_terms}
use Rattle.pcrl.specs.Sheet.{Sig}
use Rattle.terms.specs.Ends.{rests}
use Rattle.terms.specs.Stands.{KnownData}
use Rattle.terms.proofs.read_term.Given as goal

abbrev pub invariant-loop-top : goal.invariant-loop-top
invariant-loop-top l = (l.left ≤ 31) × (l.left ≤ l.top) × (l.top ≤ 32) × (length l.sorts ≡ 32)
    × ((S : Sig) → KnownData S l.s l.sizes l.funcs → rests (read_term S l.scope l.sort (drop l.at l.s)) ≡ rests (read_terms S l.scope l.left (drop l.top l.sorts) (drop l.i l.s)))

abbrev pub decreases-loop-top : goal.decreases-loop-top
decreases-loop-top l = l.left
