use Prim.Native.Nat.{ℕ, ◌≤◌, ◌<◌}
use mathlib.Core.Path.{◌≡◌}
use mathlib.Core.List.{List}
use lib.ListN.{length, drop}
use Rattle.pcrl.specs.Limits.{max_conditions}
use Rattle.assignments.specs.Places.{product}
use Rattle.assignments.specs.Conditions.{Ready}
use Rattle.assignments.proofs.Separating.{Parting}
use Rattle.assignments.proofs.two_parts.parted.Given as goal

abbrev pub invariant-loop-i : goal.invariant-loop-i
invariant-loop-i l = (length l.early ≡ max_conditions) × ((length l.late ≡ max_conditions) × ((0 < l.grain) × ((l.grain ≤ 65536) × (Parting l.s l.p l.c.froms l.c.ends l.c.blocks l.c.count l.b l.early l.late l.grain l.low l.i × ((sizes : List ℕ) (reach lowest : ℕ) → l.total ≡ product sizes → ((m : ℕ) → m < l.c.count → Ready l.s l.p sizes l.c.froms l.c.ends l.c.blocks reach lowest m) → (level : ℕ) × (l.grain ≡ product (drop level sizes)))))))
