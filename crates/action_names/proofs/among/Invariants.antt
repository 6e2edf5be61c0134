use mathlib.Core.Path.{◌≡◌}
use mathlib.Core.List.{map}
use Prim.Native.Nat.{◌+◌, ◌≤◌}
use lib.ListN.{drop}
use Rattle.pcrl.specs.Tests.{among}
use Rattle.terms.specs.Stands.{list_at}
use Rattle.action_names.proofs.among.Given as goal

abbrev pub invariant-loop-p : goal.invariant-loop-p
invariant-loop-p l = (l.skip ≤ 1) × (among l.name (map (λ p. list_at l.s (p + l.skip)) l.places) ≡ among l.name (map (λ p. list_at l.s (p + l.skip)) (drop l.p-index l.places)))
