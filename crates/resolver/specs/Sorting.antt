-- The lent scope, in 80 cells: the cells of the names in scope, the sorts of these variables, the results of the functions.
-- The sort that data has by itself is read off its first cell.
use Rattle.std.specs.Prelude.{◌≡◌, List, true, false, ℕ, suc, ◌+◌, ◌/◌, ◌%◌, ◌<◌, eqb, ltb, take, drop, get_or}
use Rattle.std.proofs.Math.Option.{Option, none, some}
use Rattle.pcrl.specs.Limits.{max_functions}
use Rattle.pcrl.specs.Tests.{Every}
use Rattle.pcrl.specs.Sheet.{Sig, func}
use Rattle.nodes.specs.Layout.{byte_limit, value_tag, variable_tag}
use Rattle.names.specs.declared.Kinds.{Kinds}

abbrev pub first_sort : ℕ
first_sort = 32

abbrev pub first_result : ℕ
first_result = 64

abbrev pub scope_cells : ℕ
scope_cells = 80

-- the sorts of the first n variables
unfoldable pub scope_sorts : List ℕ → ℕ → List ℕ
scope_sorts scope n = take n (drop first_sort scope)

unfoldable pub scope_results : List ℕ → List ℕ
scope_results scope = drop first_result scope

-- these are the sorts that the written functions give
pub record Gives (kinds : Kinds) (results : List ℕ) (S : Sig) : Type 0 where
  pub are : (f : ℕ) → f < kinds.funcs → get_or results f 0 ≡ (func S f).gives
  pub small : (f : ℕ) → f < kinds.funcs → get_or results f 0 < byte_limit

-- the results are those of the sheet's functions, and sorts are so small that their functions' numbers fit cells
pub record KnownSorts (kinds : Kinds) (scope : List ℕ) (n : ℕ) (S : Sig) : Type 0 where
  pub results : Gives kinds (scope_results scope) S
  pub sorts_small : Every (λ D. D < byte_limit) (scope_sorts scope n)

-- n variables, and the results, are as they were
pub record ScopeKept (n : ℕ) (scope scope' : List ℕ) : Type 0 where
  pub names_kept : take n scope' ≡ take n scope
  pub sorts_kept : scope_sorts scope' n ≡ scope_sorts scope n
  pub results_kept : scope_results scope' ≡ scope_results scope

-- the sort that data has by itself, by its first cell
unfoldable pub cell_sort : List ℕ → ℕ → Option ℕ
cell_sort scope c =
    elim (eqb (c % 4) value_tag) [
      | true ↦ none
      | false ↦ elim (eqb (c % 4) variable_tag) [
        | true ↦ some (get_or scope (first_sort + c / 4) 0)
        | false ↦ elim (ltb (c / 4) max_functions) [ true ↦ some (get_or scope (first_result + c / 4) 0) | false ↦ some 0 ]
      ]
    ]
