-- The lent scope of the resolver is filled: the sorts of parameters from their row, the results of functions from theirs.
use Rattle.std.specs.Prelude.{◌≡◌, List, ℕ, ◌+◌, ◌*◌, ◌<◌, take, drop, get_or}
use Rattle.pcrl.specs.Limits.{max_functions}
use Rattle.pcrl.specs.Tests.{Every}
use Rattle.pcrl.specs.Sheet.{Sig, func}
use Rattle.nodes.specs.Layout.{byte_limit}
use Rattle.nodes.specs.Held.{func_width}
use Rattle.names.specs.declared.Kinds.{Kinds}
use Rattle.resolver.specs.Sorting.{first_sort, scope_sorts, scope_results}

-- the sorts of the n parameters in the row stand in the scope; names and results are kept
pub record SortsPut (row : List ℕ) (n : ℕ) (scope scope' : List ℕ) : Type 0 where
  pub names : take first_sort scope' ≡ take first_sort scope
  pub results : scope_results scope' ≡ scope_results scope
  pub sorts : scope_sorts scope' n ≡ take n (drop 1 row)
  pub small : Every (λ D. D < byte_limit) (scope_sorts scope' n)

-- the results of the functions' rows stand in the scope; names are kept
pub record ResultsPut (funcs scope scope' : List ℕ) : Type 0 where
  pub names : take first_sort scope' ≡ take first_sort scope
  pub are : (f : ℕ) → f < max_functions → get_or (scope_results scope') f 0 ≡ get_or funcs (func_width * f + 3) 0
  pub small : (f : ℕ) → f < max_functions → get_or (scope_results scope') f 0 < byte_limit

-- the rows have the sorts that the functions give
abbrev pub GivesRows : Kinds → List ℕ → Sig → Type 0
GivesRows kinds funcs S = (f : ℕ) → f < kinds.funcs → get_or funcs (func_width * f + 3) 0 ≡ (func S f).gives
