-- What questions 10 and 14 ask of a table: its limits, and that it is rightly sorted.
use Rattle.std.specs.Prelude.{◌≡◌, List, [], ◌∷◌, ◌++◌, map, Bool, ℕ, ◌<◌, ◌≤◌, T, length, get_or}
use Rattle.std.proofs.Math.ListN.{get_elem?}
use Rattle.pcrl.specs.Text.{bytes}
use Rattle.pcrl.specs.Limits.{max_name, max_sorts, max_size, max_functions, max_actions, max_arity, frame_width, max_equations, max_summands, max_variables, max_conditions, max_calls, max_nodes, max_stream}
use Rattle.pcrl.specs.Tests.{and, negated, among, distinct, Between, both?, at_most?, Every, every?, Each}
use Rattle.pcrl.specs.Bytes.{letter, name_byte}
use Rattle.pcrl.specs.Tokens.{words}
use Rattle.pcrl.specs.Letters.{older_names}
use Rattle.pcrl.specs.Sheet.{Data, Func, Action, Sig, size, takes_of}
use Rattle.pcrl.specs.Sorts.{Bool_sort, HasSort, IsAct, volume}
use Rattle.pcrl.specs.Table.{Summand, Equation, Layout, with_names, without_names, Table, params_of, summands_of, summand_count, nodes}
use Rattle.pcrl.specs.Stream.{encode}

-- THE LIMITS OF A SHEET'S TABLE

abbrev pub Small : Data → Type 0
Small d = nodes d ≤ max_nodes

-- "per summand 4 sum variables, 8 conditions, 8 calls; 31 nodes a data term"
unfoldable pub SummandWithin : Summand → Type 0
SummandWithin h =
    (length h.vars ≤ max_variables)
    × ((length h.conds ≤ max_conditions)
    × ((length h.calls ≤ max_calls)
    × (Every (λ (c : ℕ × Data). Small c.1) h.conds
    × (Every Small h.terms
    × Every (λ (c : ℕ × List Data). Every Small c.1) h.calls))))

unfoldable pub EquationWithin : Equation → Type 0
EquationWithin e = (length e.params ≤ frame_width) × Every SummandWithin e.summands

-- 10: "The table within its limits?" "64 equations; 4 parameters; 255 summands in all; .. 64,768 stream bytes"
unfoldable pub Within : Table → Type 0
Within T =
    (length T.equations ≤ max_equations)
    × ((summand_count T.equations ≤ max_summands)
    × (Every EquationWithin T.equations
    × (length (encode T) ≤ max_stream)))

abbrev pub small? : (d : Data) → Dec (Small d)
small? d = at_most? max_nodes (nodes d)

unfoldable pub summand_within? : (h : Summand) → Dec (SummandWithin h)
unfolding SummandWithin
summand_within? h =
    both? (at_most? max_variables (length h.vars))
    (both? (at_most? max_conditions (length h.conds))
    (both? (at_most? max_calls (length h.calls))
    (both? (every? (λ (c : ℕ × Data). small? c.1) h.conds)
    (both? (every? small? h.terms)
    (every? (λ (c : ℕ × List Data). every? small? c.1) h.calls)))))

unfoldable pub equation_within? : (e : Equation) → Dec (EquationWithin e)
unfolding EquationWithin
equation_within? e = both? (at_most? frame_width (length e.params)) (every? summand_within? e.summands)

unfoldable pub within? : (T : Table) → Dec (Within T)
unfolding Within
within? T =
    both? (at_most? max_equations (length T.equations))
    (both? (at_most? max_summands (summand_count T.equations))
    (both? (every? equation_within? T.equations)
    (at_most? max_stream (length (encode T)))))

-- A RIGHT TABLE, in the order of its stream: "within all limits, rightly sorted"

-- "sizes 1 to 16", "Bool's 2 first"
unfoldable pub RightSizes : List ℕ → Type 0
RightSizes sizes = (Between 1 max_sorts (length sizes) × Every (Between 1 max_size) sizes) × (get_or sizes 0 0 ≡ 2)

-- sorts that are there
abbrev pub AreSorts : List ℕ → List ℕ → Type 0
AreSorts sizes Ds = Every (λ D. D < length sizes) Ds

-- "Functions have one or two sorts"; "function values complete and in range"
unfoldable pub RightFunc : List ℕ → Func → Type 0
RightFunc sizes g =
    (Between 1 max_arity (length g.takes) × AreSorts sizes g.takes)
    × ((g.gives < length sizes) × ((length g.values ≡ volume sizes g.takes) × Every (λ v. v < get_or sizes g.gives 0) g.values))

-- begins with a letter, and is no word and not Bool
unfoldable pub free_name : List ℕ → Bool
free_name n = and (letter (get_or n 0 0)) (negated (among n (bytes "Bool" ∷ words)))

-- "Action names are .. valid by the token rule, and none is Bool."
unfoldable pub RightName : List ℕ → Type 0
RightName n = (Between 1 max_name (length n) × Every (λ b. T (name_byte b)) n) × T (free_name n)

-- "actions none to two"
unfoldable pub RightAction : List ℕ → Action → Type 0
RightAction sizes a = RightName a.name × ((length a.takes ≤ max_arity) × AreSorts sizes a.takes)

unfoldable pub action_names : List Action → List (List ℕ)
action_names acts = map (λ (a : Action). a.name) acts

-- "Action names are distinct"
unfoldable pub RightSig : Sig → Type 0
RightSig S =
    RightSizes S.sorts
    × (((length S.funcs ≤ max_functions) × Every (RightFunc S.sorts) S.funcs)
    × (((length S.acts ≤ max_actions) × Every (RightAction S.sorts) S.acts) × T (distinct (action_names S.acts))))

-- "valid by the token rule": begins with a letter, and is no word
unfoldable pub token_name : List ℕ → Bool
token_name n = and (letter (get_or n 0 0)) (negated (among n words))

unfoldable pub RightSortName : List ℕ → Type 0
RightSortName n = (Between 1 max_name (length n) × Every (λ b. T (name_byte b)) n) × T (token_name n)

-- #104: "Sort names must be valid and distinct, Bool first." Without hex F2 "their sorts are taken as named as the printer named them".
unfoldable pub RightNames : Layout → Sig → Type 0
RightNames with_names S =
    ((length S.sort_names ≡ length S.sorts) × Every RightSortName S.sort_names)
    × (T (distinct S.sort_names) × (get_or S.sort_names 0 [] ≡ bytes "Bool"))
RightNames without_names S = S.sort_names ≡ older_names (action_names S.acts) (length S.sorts)

-- at most so many sorts, of parameters or of sum variables
unfoldable pub RightSorts : Sig → ℕ → List ℕ → Type 0
RightSorts S most Ds = (length Ds ≤ most) × AreSorts S.sorts Ds

module _ (S : Sig) where
  -- a term of the sort D, where Γ are the sorts of the variables
  abbrev pub RightTerm : List ℕ → ℕ → Data → Type 0
  RightTerm Γ D d = HasSort S (get_elem? Γ) d D × Small d

  unfoldable pub RightCond : List ℕ → ℕ × Data → Type 0
  RightCond Γ c = (c.0 < 2) × RightTerm Γ Bool_sort c.1

  -- Ps: the parameters of all equations
  unfoldable pub RightCall : List (List ℕ) → List ℕ → ℕ × List Data → Type 0
  RightCall Ps Γ c = (c.0 < length Ps) × Each (RightTerm Γ) (get_or Ps c.0 []) c.1

  -- Δ: the parameters of the summand's equation
  unfoldable pub RightSummand : List (List ℕ) → List ℕ → Summand → Type 0
  RightSummand Ps Δ h =
      RightSorts S max_variables h.vars
      × (((length h.conds ≤ max_conditions) × Every (RightCond (Δ ++ h.vars)) h.conds)
      × (IsAct S h.act
      × (Each (RightTerm (Δ ++ h.vars)) (takes_of S h.act) h.terms
      × ((length h.calls ≤ max_calls) × Every (RightCall Ps (Δ ++ h.vars)) h.calls))))

  unfoldable pub RightSummands : List (List ℕ) → List ℕ → List Summand → Type 0
  RightSummands Ps Δ hs = (length hs ≤ max_summands) × Every (RightSummand Ps Δ) hs

  unfoldable pub RightEquations : List Equation → Type 0
  RightEquations es =
      (Between 1 max_equations (length (params_of es)) × Every (RightSorts S frame_width) (params_of es))
      × Each (RightSummands (params_of es)) (params_of es) (summands_of es)

  unfoldable pub RightStart : List Equation → ℕ × List ℕ → Type 0
  RightStart es s = (s.0 < length es) × Each (λ (D v : ℕ). v < size S D) (get_or (params_of es) s.0 []) s.1

-- a table that passes question 14
unfoldable pub RightTable : Table → Type 0
RightTable T =
    (RightSig T.sig × (RightEquations T.sig T.equations × RightStart T.sig T.equations T.start))
    × ((summand_count T.equations ≤ max_summands) × (length (encode T) ≤ max_stream))
    × RightNames T.layout T.sig
