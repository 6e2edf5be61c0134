-- The sort that data has by itself is that of its first cell, for all data that is resolved; so the cell of `==` is found.
use mathlib.Core.Path.{◌≡◌, refl, sym, ap, ◌∙◌, subst}
use mathlib.Core.Bool.{Bool, true, false}
use mathlib.Core.List.{List}
use Rattle.std.specs.Prelude.{Option as Given, Some, None}
use mathlib.Core.Option.{Option, none, some}
use Prim.Native.Nat.{ℕ, suc, ◌+◌, ◌-◌, ◌*◌, ◌/◌, ◌%◌, ◌≤◌, ◌<◌}
use native.Mathlib.Decide.{dec_lt}
use native.Mathlib.Omega.{arith}
use borrow.Author.Tests.{ltb-true, ltb-false, lt-ltb, le-ltb, ne_eqb}
use lib.Dec.{eqb, ltb}
use lib.ListN.{length, drop, get_or, length-drop}
use lib.Seq.{length-take-le, get_or-take, get_or-drop}
use Rattle.pcrl.specs.Limits.{max_functions}
use Rattle.pcrl.specs.Tree.{Name, Negation}
use Rattle.pcrl.specs.Sheet.{Data, Datas, Func, Sig, Operation, not_number, first_equal, operation, function, function_at, func}
use Rattle.pcrl.specs.Names.{Names, sort_of, equal_at, resolve_negation}
use Rattle.laws.specs.Every.{every_at}
use Rattle.laws.specs.Lists.{get_elem?_below}
use Rattle.laws.specs.Numbers.{number_below}
use Rattle.laws.specs.Operations.{Seen, as_written, as_not, as_and, as_or, as_equal, as_unsorted, as_none, seen, written_function}
use Rattle.nodes.specs.Scoped.{max_scope}
use Rattle.nodes.specs.Layout.{cell_limit, byte_limit, enc_data}
use Rattle.names.specs.declared.Kinds.{Kinds}
use Rattle.resolver.specs.Formers.{Closed, negation_holds}
use Rattle.resolver.specs.Sorting.{first_sort, first_result, scope_cells, scope_sorts, scope_results, KnownSorts, cell_sort}
use Rattle.names.specs.NameCells.{found}
use Rattle.resolver.specs.Resolving.{EqualCell}

-- every operator gives Bool
operator_gives : (S : Sig) (f : ℕ) → not_number ≤ f → (function_at S f).gives ≡ 0
unfolding function_at function
operator_gives S f h = by (operation f) (seen f)
  where
    by : (o : Operation) → Seen f o → (function S o).gives ≡ 0
    by (Operation.written g) (as_written k) = absurd (omega arith)
    by Operation.not (as_not e) = refl
    by Operation.and (as_and e) = refl
    by Operation.or (as_or e) = refl
    by (Operation.equal D) (as_equal E e) = refl
    by Operation.unsorted (as_unsorted e) = refl
    by Operation.unsorted (as_none k l) = refl

-- what is known of resolved data: a variable is in scope, a function is an operator or written
unfoldable pub Top : ℕ → ℕ → Data → Type 0
Top n m (Data.val v) = Unit {0}
Top n m (Data.var i) = i < n
Top n m (Data.app f ds) = f < not_number → f < m

unfoldable pub Any : Datas → Type 0
Any ds = Unit {0}

module _ (N : Names) (S : Sig) (σ : List Name) (Γ : List ℕ) (n m : ℕ) (few : length σ ≤ n) (funcs_few : length N.funcs ≤ m) where
  top_closed : Closed N σ (Top n m) Any
  unfolding Top Any
  top_closed = record {
    value = λ v. tt;
    variable = λ x i p. let z = number_below x σ i p in omega arith;
    written = λ x f es p h. λ _. let z = number_below x N.funcs f p in omega arith;
    operator = λ f es p h. λ l. absurd (omega arith);
    empty = tt;
    more = λ e es h k. tt;
  }

  pub resolved_top : (a : Negation) (x : Data) → resolve_negation N S σ Γ a ≡ some x → Top n m x
  resolved_top a x q = negation_holds N S σ Γ (Top n m) Any top_closed a x q

-- a number that no written function has
is_operator : (f : ℕ) {m : ℕ} → (f < not_number → f < m) → m ≤ f → not_number ≤ f
is_operator f {m} h l = by (dec_lt f not_number)
  where
    by : Dec (f < not_number) → not_number ≤ f
    by (yes k) = let z = h k in absurd (omega arith)
    by (no k) = omega arith

-- the sort of a cell by its rest and its quotient
abbrev result_of : List ℕ → ℕ → Bool → Option ℕ
result_of scope f b = elim b [ true ↦ some (get_or scope (first_result + f) 0) | false ↦ some 0 ]

abbrev by_kind : List ℕ → ℕ → ℕ → Option ℕ
by_kind scope r q = elim (eqb r 0) [ true ↦ none | false ↦ elim (eqb r 1) [ true ↦ some (get_or scope (first_sort + q) 0) | false ↦ result_of scope q (ltb q max_functions) ] ]

pub sort_by : (scope : List ℕ) (c r q : ℕ) → c % 4 ≡ r → c / 4 ≡ q → cell_sort scope c ≡ by_kind scope r q
unfolding cell_sort
sort_by scope c r q e f = ap (λ (x : ℕ). by_kind scope x (c / 4)) e ∙ ap (by_kind scope r) f

-- a data term's first cell
abbrev pub first_of : Data → ℕ
first_of x = get_or (enc_data x) 0 0

pub some_cell : (x : Data) → 0 < length (enc_data x)
unfolding enc_data
some_cell (Data.val v) = omega arith
some_cell (Data.var i) = omega arith
some_cell (Data.app f ds) = omega arith

module _ (N : Names) (S : Sig) (kinds : Kinds) (scope : List ℕ) (n : ℕ) (sorted : KnownSorts kinds scope n S) (many : length scope ≡ scope_cells) (few : n ≤ max_scope) (funcs_few : kinds.funcs ≤ max_functions) where
  pub sorts_many : length (scope_sorts scope n) ≡ n
  unfolding scope_sorts
  sorts_many = length-take-le n (drop first_sort scope) (omega (arith, length-drop first_sort scope))

  sort_is : (i : ℕ) → i < n → get_or (scope_sorts scope n) i 0 ≡ get_or scope (first_sort + i) 0
  unfolding scope_sorts
  sort_is i h = get_or-take n (drop first_sort scope) i 0 h ∙ get_or-drop first_sort scope i 0

  result_is : (f : ℕ) → get_or (scope_results scope) f 0 ≡ get_or scope (first_result + f) 0
  unfolding scope_results
  result_is f = get_or-drop first_result scope f 0

  -- THE SORT OF DATA IS THAT OF ITS FIRST CELL.
  pub own_sort : (x : Data) → Top n kinds.funcs x → cell_sort scope (first_of x) ≡ sort_of N S (scope_sorts scope n) x
  unfolding sort_of enc_data Top
  own_sort (Data.val v) h = sort_by scope (4 * v + 0) 0 v (omega arith) (omega arith)
  own_sort (Data.var i) h =
      let u = sorts_many in
      sort_by scope (4 * i + 1) 1 i (omega arith) (omega arith) ∙ ap some (sym (sort_is i h)) ∙ sym (get_elem?_below (scope_sorts scope n) i 0 (omega arith))
  own_sort (Data.app f ds) h = sort_by scope (4 * f + 2) 2 f (omega arith) (omega arith) ∙ by (ltb f max_functions) refl
    where
      by : (b : Bool) → ltb f max_functions ≡ b → result_of scope f b ≡ some (function_at S f).gives
      by true e =
          let l = ltb-true f max_functions e in
          let k : f < kinds.funcs = h (omega arith) in
          let g = written_function S f (omega arith) in
          ap some (sym (result_is f) ∙ sorted.results.are f k ∙ ap (λ (x : Func). x.gives) (sym g))
      by false e = let l = ltb-false f max_functions e in ap some (sym (operator_gives S f (is_operator f h (omega arith))))

  -- it is small
  pub own_small : (x : Data) → Top n kinds.funcs x → (D : ℕ) → sort_of N S (scope_sorts scope n) x ≡ some D → D < byte_limit
  unfolding sort_of Top
  own_small (Data.val v) h D e = let z : ◌≡◌ {A = ℕ} 0 1 = cc in absurd (omega arith)
  own_small (Data.var i) h D e =
      let u = sorts_many in
      let g = get_elem?_below (scope_sorts scope n) i 0 (omega arith) in
      let z : get_or (scope_sorts scope n) i 0 ≡ D = cc in
      subst (λ (x : ℕ). x < byte_limit) z (every_at (λ D. D < byte_limit) (scope_sorts scope n) 0 i sorted.sorts_small (omega arith))
  own_small (Data.app f ds) h D e = by (dec_lt f not_number)
    where
      by : Dec (f < not_number) → D < byte_limit
      by (yes k) =
          let g : (function_at S f).gives ≡ (func S f).gives = ap (λ (x : Func). x.gives) (written_function S f k) in
          let z : (function_at S f).gives ≡ D = cc in
          let y = sorted.results.are f (h k) in
          let u = sorted.results.small f (h k) in
          omega arith
      by (no k) =
          let g = operator_gives S f (omega arith) in
          let z : (function_at S f).gives ≡ D = cc in
          omega arith

-- its number fits a cell
pub equal_fits : (N : Names) (S : Sig) (a b : Option ℕ) → ((D : ℕ) → a ≡ some D → D < byte_limit) → ((D : ℕ) → b ≡ some D → D < byte_limit) → 4 * equal_at N S a b + 2 < cell_limit
unfolding equal_at
equal_fits N S (some D) b h k = let z = h D refl in omega arith
equal_fits N S none (some D) h k = let z = k D refl in omega arith
equal_fits N S none none h k = omega arith

-- ---- as the code goes
module _ (scope : List ℕ) (c k i : ℕ) (ek : k ≡ c % 4) (ei : i ≡ c / 4) where
  at_cell : cell_sort scope c ≡ by_kind scope k i
  at_cell = sort_by scope c k i (sym ek) (sym ei)

  pub value_sort : k ≡ 0 → None ≡ found (cell_sort scope c)
  value_sort z = sym (ap found (at_cell ∙ ap (λ (x : ℕ). by_kind scope x i) z))

  pub variable_sort : k ≡ 1 → (d : ℕ) → d ≡ get_or scope (first_sort + i) 0 → Some d ≡ found (cell_sort scope c)
  variable_sort z d e = ap Some e ∙ sym (ap found (at_cell ∙ ap (λ (x : ℕ). by_kind scope x i) z))

  module _ (no_value : k ≡ 0 → ⊥) (no_variable : k ≡ 1 → ⊥) where
    function_cell : cell_sort scope c ≡ result_of scope i (ltb i max_functions)
    function_cell = at_cell ∙ ap (λ (b : Bool). elim b as (λ (x : Bool). Option ℕ) [ true ↦ none | false ↦ elim (eqb k 1) as (λ (x : Bool). Option ℕ) [ true ↦ some (get_or scope (first_sort + i) 0) | false ↦ result_of scope i (ltb i max_functions) ] ]) (ne_eqb k 0 no_value)
        ∙ ap (λ (b : Bool). elim b as (λ (x : Bool). Option ℕ) [ true ↦ some (get_or scope (first_sort + i) 0) | false ↦ result_of scope i (ltb i max_functions) ]) (ne_eqb k 1 no_variable)

    pub written_sort : i < max_functions → (d : ℕ) → d ≡ get_or scope (first_result + i) 0 → Some d ≡ found (cell_sort scope c)
    written_sort h d e = ap Some e ∙ sym (ap found (function_cell ∙ ap (result_of scope i) (lt-ltb i max_functions h)))

    pub operator_sort : max_functions ≤ i → ◌≡◌ {A = Given ℕ} (Some 0) (found (cell_sort scope c))
    operator_sort h = sym (ap found (function_cell ∙ ap (result_of scope i) (le-ltb i max_functions h)))

module _ (scope : List ℕ) (c d : ℕ) where
  pub equal_first : (a : ℕ) → cell_sort scope c ≡ some a → (r : ℕ) → (4 * (first_equal + a) + 2 < cell_limit → r ≡ 4 * (first_equal + a) + 2) → EqualCell scope c d r
  unfolding equal_at
  equal_first a e r f N S = rw e f

  module _ (no_first : cell_sort scope c ≡ none) where
    pub equal_second : (b : ℕ) → cell_sort scope d ≡ some b → (r : ℕ) → (4 * (first_equal + b) + 2 < cell_limit → r ≡ 4 * (first_equal + b) + 2) → EqualCell scope c d r
    unfolding equal_at
    equal_second b e r f N S = rw (no_first, e) f

    pub equal_neither : cell_sort scope d ≡ none → EqualCell scope c d 134
    unfolding equal_at
    equal_neither e N S = rw (no_first, e) (λ l. refl)
