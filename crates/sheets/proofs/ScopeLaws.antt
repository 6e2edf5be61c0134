-- The lent scope is filled, one cell at each turn; then the names in scope are the parameters', and the sorts are theirs.
use mathlib.Core.Path.{◌≡◌, refl, sym, ◌∙◌, ap, subst⁻¹}
use mathlib.Core.List.{List, [], ◌∷◌, ◌++◌, map}
use Prim.Native.Nat.{ℕ, ◌+◌, ◌*◌, ◌≤◌, ◌<◌}
use native.Mathlib.Decide.{dec_lt}
use native.Mathlib.Numerals.{add-one}
use native.Mathlib.Omega.{arith}
use lib.ListN.{length, take, drop, get_or, set, length-drop}
use lib.Seq.{length-take-le, take-suc, take-take, take-set-le, take-suc-set, drop-set-lt, drop-set-add, get_or-take, get_or-drop, get_or-set_same, get_or-set_other, ext_get_or}
use Rattle.pcrl.specs.Limits.{max_functions}
use Rattle.pcrl.specs.Tests.{Every}
use Rattle.pcrl.specs.Sheet.{Sig}
use Rattle.laws.specs.Every.{every_take, every_drop, at_every}
use Rattle.nodes.specs.Scoped.{max_scope}
use Rattle.nodes.specs.Layout.{byte_limit}
use Rattle.nodes.specs.Held.{func_width, SortsAt}
use Rattle.names.specs.NameCells.{name_at, scope_at}
use Rattle.names.specs.declared.Kinds.{Kinds}
use Rattle.resolver.specs.Sorting.{first_sort, first_result, scope_cells, scope_sorts, scope_results, Gives, KnownSorts}
use Rattle.sheets.specs.ScopePuts.{SortsPut, ResultsPut, GivesRows}

-- ---- the sorts of parameters
module _ (row scope₀ : List ℕ) where
  -- the first i stand in the scope
  pub record SortsSoFar (i : ℕ) (scope : List ℕ) : Type 0 where
    pub names : take first_sort scope ≡ take first_sort scope₀
    pub results : scope_results scope ≡ scope_results scope₀
    pub sorts : scope_sorts scope i ≡ take i (drop 1 row)

  pub sorts_start : SortsSoFar 0 scope₀
  unfolding scope_sorts
  sorts_start = record { names = refl; results = refl; sorts = refl }

  pub sorts_more : (i v : ℕ) (scope : List ℕ) → SortsSoFar i scope → i < max_scope → length scope ≡ scope_cells → 1 + i < length row → v ≡ get_or row (1 + i) 0
      → SortsSoFar (i + 1) (set scope (first_sort + i) v)
  unfolding scope_sorts scope_results
  sorts_more i v scope so h many l e = record {
    names = take-set-le first_sort scope (first_sort + i) v (omega arith) ∙ so.names;
    results = drop-set-lt first_result scope (first_sort + i) v (omega arith) ∙ so.results;
    sorts = ap (take (i + 1)) (drop-set-add first_sort scope i v)
        ∙ ap (λ k. take k (set (drop first_sort scope) i v)) (add-one i)
        ∙ take-suc-set (drop first_sort scope) i v (omega (arith, length-drop first_sort scope))
        ∙ ap (λ l. l ++ (v ∷ [])) so.sorts
        ∙ ap (λ x. take i (drop 1 row) ++ (x ∷ [])) (e ∙ sym (get_or-drop 1 row i 0))
        ∙ sym (take-suc (drop 1 row) i 0 (omega (arith, length-drop 1 row)))
        ∙ ap (λ k. take k (drop 1 row)) (sym (add-one i));
  }

  pub sorts_done : (n : ℕ) (scope : List ℕ) → SortsSoFar n scope → ((i : ℕ) → i < length row → get_or row i 0 < byte_limit) → SortsPut row n scope₀ scope
  sorts_done n scope so bytes = record {
    names = so.names;
    results = so.results;
    sorts = so.sorts;
    small = subst⁻¹ (Every (λ D. D < byte_limit)) so.sorts (every_take (λ D. D < byte_limit) n (drop 1 row) (every_drop (λ D. D < byte_limit) 1 row (at_every (λ D. D < byte_limit) row 0 bytes)));
  }

-- ---- the results of functions
module _ (funcs scope₀ : List ℕ) where
  -- those of the first f stand in the scope
  pub record ResultsSoFar (f : ℕ) (scope : List ℕ) : Type 0 where
    pub names : take first_sort scope ≡ take first_sort scope₀
    pub are : (j : ℕ) → j < f → get_or (scope_results scope) j 0 ≡ get_or funcs (func_width * j + 3) 0

  pub results_start : ResultsSoFar 0 scope₀
  results_start = record { names = refl; are = λ j h. absurd (omega arith) }

  pub results_more : (f v : ℕ) (scope : List ℕ) → ResultsSoFar f scope → f < max_functions → length scope ≡ scope_cells → v ≡ get_or funcs (func_width * f + 3) 0 → ResultsSoFar (f + 1) (set scope (first_result + f) v)
  unfolding scope_results
  results_more f v scope so h many e = record { names = take-set-le first_sort scope (first_result + f) v (omega arith) ∙ so.names; are = λ j l. by j l (dec_lt j f) }
    where
      by : (j : ℕ) → j < f + 1 → Dec (j < f) → get_or (drop first_result (set scope (first_result + f) v)) j 0 ≡ get_or funcs (func_width * j + 3) 0
      by j l (yes k) = ap (λ x. get_or x j 0) (drop-set-add first_result scope f v) ∙ get_or-set_other (drop first_result scope) f j v 0 (λ z. omega arith) ∙ so.are j k
      by j l (no k) =
          let z : j ≡ f = omega arith in
          ap (λ x. get_or x j 0) (drop-set-add first_result scope f v) ∙ ap (λ i. get_or (set (drop first_result scope) f v) i 0) z
          ∙ get_or-set_same (drop first_result scope) f v 0 (omega (arith, length-drop first_result scope)) ∙ e ∙ ap (λ i. get_or funcs (func_width * i + 3) 0) (sym z)

  pub results_done : (f : ℕ) (scope : List ℕ) → ResultsSoFar f scope → max_functions ≤ f → ((i : ℕ) → i < max_functions → get_or funcs (func_width * i + 3) 0 < byte_limit) → ResultsPut funcs scope₀ scope
  results_done f scope so h bytes = record { names = so.names; are = λ j l. so.are j (omega arith); small = λ j l. let e = so.are j (omega arith) in let b = bytes j l in omega arith }

-- ---- what is in scope
same_names : (s a b : List ℕ) (n : ℕ) → n ≤ max_scope → take first_sort a ≡ take first_sort b → scope_at s a n ≡ scope_at s b n
unfolding scope_at
same_names s a b n h e = ap (map (name_at s)) (sym (take-take n first_sort a h) ∙ ap (take n) e ∙ take-take n first_sort b h)

-- the functions' results as the resolver asks for them
pub results_known : (kinds : Kinds) (funcs a b : List ℕ) (S : Sig) → kinds.funcs ≤ max_functions → ResultsPut funcs a b → GivesRows kinds funcs S → Gives kinds (scope_results b) S
results_known kinds funcs a b S few put gives = record { are = λ f h. put.are f (omega arith) ∙ gives f h; small = λ f h. put.small f (omega arith) }

module _ (kinds : Kinds) (funcs row : List ℕ) (n : ℕ) (a b c : List ℕ) (few : n ≤ max_scope) (results : ResultsPut funcs a b) (sorts : SortsPut row n b c) where
  pub filled_names : (s : List ℕ) → scope_at s c n ≡ scope_at s a n
  filled_names s = same_names s c a n few (sorts.names ∙ results.names)

  pub filled_sorts : (Ds : List ℕ) → n ≡ length Ds → SortsAt Ds row 0 → 1 + n ≤ length row → scope_sorts c n ≡ Ds
  filled_sorts Ds many held room =
      let l = length-take-le n (drop 1 row) (omega (arith, length-drop 1 row)) in
      sorts.sorts ∙ ext_get_or 0 (take n (drop 1 row)) Ds (l ∙ many)
      (λ i h. get_or-take n (drop 1 row) i 0 (omega arith) ∙ get_or-drop 1 row i 0 ∙ held.each i (omega arith))

  pub filled_known : (S : Sig) → kinds.funcs ≤ max_functions → GivesRows kinds funcs S → KnownSorts kinds c n S
  filled_known S funcs_few gives = record {
    results = subst⁻¹ (λ (l : List ℕ). Gives kinds l S) sorts.results (results_known kinds funcs a b S funcs_few results gives);
    sorts_small = sorts.small;
  }
