-- Assignments of the sum variables, numbered in the order of document 01, and those of them that pass a test.
use Rattle.std.specs.Prelude.{List, [], ◌∷◌, Bool, ℕ, zero, suc, ◌+◌, ◌*◌, ◌/◌, ◌%◌, ◌<◌, ◌≤◌, get_or}
use Rattle.pcrl.specs.Limits.{max_size, max_variables}
use Rattle.evaluation.specs.Run.{pick}

-- how many assignments there are for sorts of these sizes
abbrev pub product : List ℕ → ℕ
product [] = 1
product (n ∷ ns) = n * product ns

-- assignment j, "last variable fastest": a variable's value goes round once for each round of those after it
abbrev pub digits_of : List ℕ → ℕ → List ℕ
digits_of [] j = []
digits_of (n ∷ ns) j = j / product ns % n ∷ digits_of ns j

-- of the n numbers from j on, those that pass
unfoldable pub places : (ℕ → Bool) → ℕ → ℕ → List ℕ
places acc zero j = []
places acc (suc n) j = pick (acc j) (j ∷ places acc n (j + 1)) (places acc n (j + 1))

-- sum variables of a summand, at the most, and sizes of their sorts: 1 where there is no variable
abbrev pub Sizes : List ℕ → Type 0
Sizes l = (i : ℕ) → i < max_variables → (0 < get_or l i 0) × (get_or l i 0 ≤ max_size)
