-- The reader of a stream, with every check of question 14. The crate codec shows that it finds a table
-- exactly where the stream begins with that table's bytes and the table is right.
use Rattle.std.specs.Prelude.{◌≡◌, List, [], ◌∷◌, ◌++◌, ℕ, zero, suc, ◌+◌, ◌-◌, ◌<◌, T, length, get_or, drop}
use Rattle.std.proofs.Math.Option.{Option, none, some}
use Rattle.std.proofs.Math.Decide.{ℕ_discrete, dec_lt}
use Rattle.std.proofs.Math.ListN.{get_elem?}
use Rattle.pcrl.specs.Limits.{max_name, max_sorts, max_size, max_functions, max_actions, max_arity, frame_width, max_equations, max_summands, max_variables, max_conditions, max_calls, max_nodes, max_stream}
use Rattle.pcrl.specs.Text.{bytes}
use Rattle.pcrl.specs.Tests.{both?, between?, at_most?, below?, T?, same?, some?, distinct}
use Rattle.pcrl.specs.Bytes.{name_byte}
use Rattle.pcrl.specs.Reader.{Got, missing, found, Reader, bind, keep, one, test, pair, view, times, counted, each}
use Rattle.pcrl.specs.Tree.{Name}
use Rattle.pcrl.specs.Lists.{firsts, seconds}
use Rattle.pcrl.specs.Letters.{older_names}
use Rattle.pcrl.specs.Sheet.{Data, val, var, app, Datas, nil, cons, Act, tau, action, Func, Action, Sig, first_equal, size, function_at, takes_of}
use Rattle.pcrl.specs.Sorts.{Bool_sort, IsFunc, is_func?, volume}
use Rattle.pcrl.specs.Table.{Summand, Equation, Layout, with_names, without_names, Table, params_of, summand_count}
use Rattle.pcrl.specs.Stream.{variable_code, function_code, tau_code, names_code, encode}
use Rattle.pcrl.specs.Right.{free_name, token_name, action_names}

-- a node of a term
pub data Node : Type 0 where
  value variable function : ℕ → Node

unfoldable pub node_of : ℕ → Node
node_of b =
    elim (dec_lt b variable_code) [
      | yes h ↦ value b
      | no h ↦ elim (dec_lt b function_code) [ yes k ↦ variable (b - variable_code) | no k ↦ function (b - function_code) ]
    ]

-- "`==` is followed by one byte for its sort"
unfoldable pub sorted_equal : Reader ℕ Node
sorted_equal [] = missing
sorted_equal (D ∷ xs) = found (function (first_equal + D)) xs

-- no code is above those of operators
abbrev pub code_limit : ℕ
code_limit = 0x64

-- the node that stands next
unfoldable pub read_node : Reader ℕ Node
read_node [] = missing
read_node (b ∷ xs) = elim (ℕ_discrete b 0x61) [ yes e ↦ sorted_equal xs | no h ↦ keep (dec_lt b code_limit) (node_of b) xs ]

-- the first n terms as arguments
unfoldable pub arguments_of : ℕ → List Data → Datas
arguments_of zero ds = nil
arguments_of (suc n) [] = nil
arguments_of (suc n) (d ∷ ds) = cons d (arguments_of n ds)

unfoldable pub guard : {P A : Type 0} → Dec P → (P → Got ℕ A) → Got ℕ A
guard (yes h) k = k h
guard (no h) k = missing

module _ (S : Sig) (Γ : List ℕ) where
  -- may this node stand where the sort D is expected
  unfoldable pub Fits : ℕ → Node → Type 0
  Fits D (value v) = v < size S D
  Fits D (variable i) = get_elem? Γ i ≡ Option.some D
  Fits D (function f) = IsFunc S f × ((function_at S f).gives ≡ D)

  unfoldable pub fits? : (D : ℕ) (n : Node) → Dec (Fits D n)
  unfolding Fits
  fits? D (value v) = dec_lt v (size S D)
  fits? D (variable i) = some? (get_elem? Γ i) D
  fits? D (function f) = both? (is_func? S f) (ℕ_discrete (function_at S f).gives D)

  -- the sorts that are expected behind it
  unfoldable pub wants : Node → List ℕ
  wants (value v) = []
  wants (variable i) = []
  wants (function f) = (function_at S f).takes

  -- the node put before its arguments
  unfoldable pub build : Node → List Data → List Data
  build (value v) ds = val v ∷ ds
  build (variable i) ds = var i ∷ ds
  build (function f) ds = app f (arguments_of (length (function_at S f).takes) ds) ∷ drop (length (function_at S f).takes) ds

  -- terms of the sorts Ds, with at most n nodes in all
  unfoldable pub read_terms : ℕ → List ℕ → Reader ℕ (List Data)
  read_terms zero [] xs = found [] xs
  read_terms zero (D ∷ Ds) xs = missing
  read_terms (suc n) [] xs = found [] xs
  read_terms (suc n) (D ∷ Ds) xs = bind (read_node xs) (λ x ys. guard (fits? D x) (λ h. view (build x) (read_terms n (wants x ++ Ds)) ys))

  unfoldable pub first : List Data → Data
  first [] = val 0
  first (d ∷ ds) = d

  unfoldable pub read_term : ℕ → Reader ℕ Data
  read_term D xs = view first (read_terms max_nodes (D ∷ [])) xs

-- at most so many sorts
unfoldable pub read_sorts : List ℕ → ℕ → Reader ℕ (List ℕ)
read_sorts sizes most = counted (at_most? most) (one (below? (length sizes)))

unfoldable pub read_sizes : Reader ℕ (List ℕ)
read_sizes = test (λ l. ℕ_discrete (get_or l 0 0) 2) (counted (between? 1 max_sorts) (one (between? 1 max_size)))

unfoldable pub to_func : List ℕ × (ℕ × List ℕ) → Func
to_func x = record { takes = x.0; gives = x.1.0; values = x.1.1 }

unfoldable pub read_func : List ℕ → Reader ℕ Func
read_func sizes =
    view to_func (pair (counted (between? 1 max_arity) (one (below? (length sizes)))) (λ Ds. pair (one (below? (length sizes))) (λ D. times (one (below? (get_or sizes D 0))) (volume sizes Ds))))

unfoldable pub to_action : List ℕ × List ℕ → Action
to_action x = record { name = x.0; takes = x.1 }

unfoldable pub read_name : Reader ℕ (List ℕ)
read_name = test (λ n. T? (free_name n)) (counted (between? 1 max_name) (one (λ b. T? (name_byte b))))

unfoldable pub read_action : List ℕ → Reader ℕ Action
read_action sizes = view to_action (pair read_name (λ n. read_sorts sizes max_arity))

-- #104: "The stream gives each sort a name length and name after its size"; "Sort names must be valid .."
unfoldable pub read_sort_name : Reader ℕ Name
read_sort_name = test (λ n. T? (token_name n)) (counted (between? 1 max_name) (one (λ b. T? (name_byte b))))

unfoldable pub read_sort : Reader ℕ (ℕ × Name)
read_sort = pair (one (between? 1 max_size)) (λ n. read_sort_name)

-- ".. and distinct, Bool first"
unfoldable pub read_named_sorts : Reader ℕ (List (ℕ × Name))
read_named_sorts =
    test (λ l. both? (ℕ_discrete (get_or (firsts l) 0 0) 2) (both? (T? (distinct (seconds l))) (same? (get_or (seconds l) 0 []) (bytes "Bool"))))
    (counted (between? 1 max_sorts) read_sort)

-- the sizes of the sorts, and their names where these stand in the stream
abbrev pub SortsRead : Type 0
SortsRead = List ℕ × Option (List Name)

unfoldable pub named_sorts : List (ℕ × Name) → SortsRead
named_sorts l = (firsts l, some (seconds l))

unfoldable pub unnamed_sorts : List ℕ → SortsRead
unnamed_sorts l = (l, none)

-- "starts with hex F2"; "Tables without hex F2 are still read"
unfoldable pub read_all_sorts : Reader ℕ SortsRead
read_all_sorts [] = missing
read_all_sorts (b ∷ xs) = elim (ℕ_discrete b names_code) [ yes e ↦ view named_sorts read_named_sorts xs | no h ↦ view unnamed_sorts read_sizes (b ∷ xs) ]

unfoldable pub layout_by : Option (List Name) → Layout
layout_by none = without_names
layout_by (some names) = with_names

-- "their sorts are taken as named as the printer named them"
unfoldable pub names_by : Option (List Name) → List ℕ → List Action → List Name
names_by none sizes acts = older_names (action_names acts) (length sizes)
names_by (some names) sizes acts = names

unfoldable pub to_sig : SortsRead × (List Func × List Action) → Layout × Sig
to_sig x = (layout_by x.0.1, record { sorts = x.0.0; sort_names = names_by x.0.1 x.0.0 x.1.1; funcs = x.1.0; acts = x.1.1 })

unfoldable pub read_sig : Reader ℕ (Layout × Sig)
read_sig =
    view to_sig (pair read_all_sorts (λ x.
    pair (counted (at_most? max_functions) (read_func x.0)) (λ fs.
    test (λ acts. T? (distinct (action_names acts))) (counted (at_most? max_actions) (read_action x.0)))))

unfoldable pub to_summand : List ℕ × (List (ℕ × Data) × (Act × (List Data × List (ℕ × List Data)))) → Summand
to_summand x = record { vars = x.0; conds = x.1.0; act = x.1.1.0; terms = x.1.1.1.0; calls = x.1.1.1.1 }

unfoldable pub zip : List (List ℕ) → List (List Summand) → List Equation
zip [] hs = []
zip (p ∷ ps) [] = []
zip (p ∷ ps) (h ∷ hs) = record { params = p; summands = h } ∷ zip ps hs

unfoldable pub to_equations : List (List ℕ) × List (List Summand) → List Equation
to_equations x = zip x.0 x.1

module _ (S : Sig) where
  unfoldable pub read_act : Reader ℕ Act
  read_act [] = missing
  read_act (b ∷ xs) = elim (ℕ_discrete b tau_code) [ yes e ↦ found tau xs | no h ↦ keep (dec_lt b (length S.acts)) (action b) xs ]

  unfoldable pub read_cond : List ℕ → Reader ℕ (ℕ × Data)
  read_cond Γ = pair (one (below? 2)) (λ w. read_term S Γ Bool_sort)

  unfoldable pub read_call : List (List ℕ) → List ℕ → Reader ℕ (ℕ × List Data)
  read_call Ps Γ = pair (one (below? (length Ps))) (λ e. each (read_term S Γ) (get_or Ps e []))

  unfoldable pub read_summand : List (List ℕ) → List ℕ → Reader ℕ Summand
  read_summand Ps Δ =
      view to_summand (pair (read_sorts S.sorts max_variables) (λ vs.
      pair (counted (at_most? max_conditions) (read_cond (Δ ++ vs))) (λ cs.
      pair read_act (λ a.
      pair (each (read_term S (Δ ++ vs)) (takes_of S a)) (λ ts.
      counted (at_most? max_calls) (read_call Ps (Δ ++ vs)))))))

  unfoldable pub read_summands : List (List ℕ) → List ℕ → Reader ℕ (List Summand)
  read_summands Ps Δ = counted (at_most? max_summands) (read_summand Ps Δ)

  unfoldable pub read_equations : Reader ℕ (List Equation)
  read_equations = view to_equations (pair (counted (between? 1 max_equations) (read_sorts S.sorts frame_width)) (λ Ps. each (read_summands Ps) Ps))

  unfoldable pub read_start : List Equation → Reader ℕ (ℕ × List ℕ)
  read_start es = pair (one (below? (length es))) (λ e. each (λ D. one (below? (size S D))) (get_or (params_of es) e []))

unfoldable pub to_table : (Layout × Sig) × (List Equation × (ℕ × List ℕ)) → Table
to_table x = record { layout = x.0.0; sig = x.0.1; equations = x.1.0; start = x.1.1 }

unfoldable pub decode : Reader ℕ Table
decode =
    test (λ T. both? (at_most? max_summands (summand_count T.equations)) (at_most? max_stream (length (encode T))))
    (view to_table (pair read_sig (λ x. pair (read_equations x.1) (λ es. read_start x.1 es))))
