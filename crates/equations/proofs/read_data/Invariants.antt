use mathlib.Core.Path.{◌≡◌}
use Prim.Native.Nat.{◌≤◌}
use lib.ListN.{drop, get_or, length}
use Rattle.pcrl.specs.Reader.{each, one}
use Rattle.pcrl.specs.Tests.{below?}
use Rattle.terms.specs.Ends.{rests}
use Rattle.equations.proofs.read_data.Given as goal

abbrev pub invariant-loop-d : goal.invariant-loop-d
invariant-loop-d l = (l.at ≤ length l.s → l.i ≤ length l.s) × (rests (each (λ D. one (below? (get_or l.sizes D 0))) l.sorts (drop l.at l.s)) ≡ rests (each (λ D. one (below? (get_or l.sizes D 0))) (drop l.d-index l.sorts) (drop l.i l.s)))
