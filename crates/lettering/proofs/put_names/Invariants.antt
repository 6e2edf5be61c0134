use mathlib.Core.Path.{◌≡◌}
use mathlib.Core.List.{List}
use mathlib.Core.Bool.{Bool}
use Prim.Native.Nat.{ℕ, ◌≤◌}
use lib.ListN.{length, get_or}
use Rattle.lettering.specs.Named.{name_by}
use Rattle.lettering.specs.SortNames.{CellsIn, ShortNames}
use Rattle.lettering.proofs.put_names.Given as goal

-- the name of the sort at place D
abbrev pub name : List ℕ → List ℕ → Bool → ℕ → ℕ → List ℕ
name s sorts named n D = name_by named s (get_or sorts D 0) n D

abbrev pub invariant-loop-d : goal.invariant-loop-d
invariant-loop-d l = (l.d ≤ l.m) × ((length l.out ≡ length l.initial.out) × (ShortNames (name l.s l.sorts l.named l.n) l.m → CellsIn (name l.s l.sorts l.named l.n) l.d l.out))
