use mathlib.Core.Path.{◌≡◌}
use Prim.Native.Nat.{◌≤◌}
use lib.ListN.{length}
use Rattle.initial.proofs.Stepping.{Goes}
use Rattle.initial.proofs.evaluate.Given as goal

abbrev pub invariant-loop-i : goal.invariant-loop-i
invariant-loop-i l = (l.i ≤ l.t) × (l.t ≤ length l.cells) × (length l.cells ≡ length l.initial.cells) × Goes l.sizes l.funcs l.values l.places l.initial.cells l.at l.end l.i l.t l.cells

abbrev pub decreases-loop-i : goal.decreases-loop-i
decreases-loop-i l = l.i
