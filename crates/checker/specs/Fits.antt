-- The sort of a data term node by node: its first node fits the sort of its place, and in every node the arguments' first nodes fit theirs.
-- So each node is checked by itself, and no walk keeps a stack of expected sorts.
use Rattle.std.specs.Prelude.{◌≡◌, List, ◌++◌, ℕ, ◌<◌}
use Rattle.std.proofs.Math.Option.{some}
use Rattle.pcrl.specs.Tests.{Each, Every}
use Rattle.pcrl.specs.Sheet.{Data, val, var, app, Datas, nil, cons, list_of, Sig, size, function_at}
use Rattle.pcrl.specs.Sorts.{Scope, Bool_sort, IsFunc}

module _ (S : Sig) (Γ : Scope) where
  -- the first node has the sort D
  unfoldable pub Fits : Data → ℕ → Type 0
  Fits (val v) D = v < size S D
  Fits (var i) D = Γ i ≡ some D
  Fits (app f ds) D = IsFunc S f × ((function_at S f).gives ≡ D)

  -- the arguments of the first node fit
  unfoldable pub ArgumentsFit : Data → Type 0
  ArgumentsFit (val v) = Unit {0}
  ArgumentsFit (var i) = Unit {0}
  ArgumentsFit (app f ds) = IsFunc S f × Each Fits (list_of ds) (function_at S f).takes

  -- the arguments of every node fit
  unfoldable mutual
    pub Inside : Data → Type 0
    Inside (val v) = Unit {0}
    Inside (var i) = Unit {0}
    Inside (app f ds) = ArgumentsFit (app f ds) × InsideAll ds

    pub InsideAll : Datas → Type 0
    InsideAll nil = Unit {0}
    InsideAll (cons d ds) = Inside d × InsideAll ds

  -- data terms xs that fit Bool, before others ds
  abbrev pub BoolsBefore : List Data → List Data → Type 0
  BoolsBefore ds xs = Every (λ d. Fits d Bool_sort) xs × Every Inside (xs ++ ds)
