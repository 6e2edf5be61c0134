use mathlib.Core.Path.{◌≡◌}
use mathlib.Core.List.{map}
use Prim.Native.Nat.{◌+◌, ◌≤◌}
use lib.ListN.{drop}
use Rattle.pcrl.specs.Tests.{distinct}
use Rattle.terms.specs.Stands.{list_at}
use Rattle.action_names.proofs.distinct.Given as goal

abbrev pub invariant-loop-k : goal.invariant-loop-k
invariant-loop-k l = (l.skip ≤ 1) × (distinct (map (λ p. list_at l.s (p + l.skip)) l.places) ≡ distinct (map (λ p. list_at l.s (p + l.skip)) (drop l.k l.places)))
