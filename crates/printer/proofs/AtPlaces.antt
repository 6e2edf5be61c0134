-- What holds of each of the names that stand at places.
use mathlib.Core.Path.{sym, subst}
use mathlib.Core.List.{List, []}
use Prim.Native.Nat.{ℕ, ◌<◌}
use native.Mathlib.Omega.{arith}
use lib.ListN.{get_or}
use Rattle.pcrl.specs.Tests.{Every}
use Rattle.laws.specs.Every.{every_at, at_every}
use Rattle.terms.specs.Stands.{list_at}
use Rattle.lettering.specs.Named.{names_at}
use Rattle.lettering.proofs.Runs.{name_at, names_many}

module _ (P : List ℕ → Type 0) (s places : List ℕ) (n : ℕ) where
  pub all_there : ((k : ℕ) → k < n → P (list_at s (get_or places k 0))) → Every P (names_at s places n)
  all_there h = at_every P (names_at s places n) [] (λ i b. let k : i < n = omega (arith, names_many s places n) in subst P (sym (name_at s places n i k)) (h i k))

  pub one_lacks : (k : ℕ) → k < n → ¬ (P (list_at s (get_or places k 0))) → ¬ (Every P (names_at s places n))
  one_lacks k b lacks all = lacks (subst P (name_at s places n k b) (every_at P (names_at s places n) [] k all (omega (arith, names_many s places n))))
