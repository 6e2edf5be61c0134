-- What the resolver answers: for every raw term that stands at a place of the cells, and every list of names that the scope
-- and the cells of the declared names stand for, the cells of the resolved term, or none.
use Rattle.std.specs.Prelude.{◌≡◌, List, [], ◌∷◌, ◌++◌, Bool, false, ℕ, zero, suc, ◌+◌, ◌*◌, ◌≤◌, ◌<◌, max, eqb, length, drop, get_or, set}
use Rattle.std.specs.Prelude.{Option as Given, Some, None, IfSome, MatchOption}
use Rattle.std.proofs.Math.Option.{Option, none, some}
use Rattle.pcrl.specs.Limits.{max_sorts, max_functions, max_actions, max_processes}
use Rattle.pcrl.specs.Maybe.{◌>>=◌, ◌>>◌, provided}
use Rattle.pcrl.specs.Tree.{Name, RawData, Conjunction, Comparison, Negation, Atom, RawDatas, Choice, InitLine}
use Rattle.pcrl.specs.Sheet.{Data, Proc, call, Sig}
use Rattle.pcrl.specs.Names.{Names, number_of, new_variable, equal_at, resolve_data, resolve_conjunction, resolve_comparison, resolve_negation, resolve_atom, resolve_datas, resolve_given, resolve_choice, resolve_init}
use Rattle.pcrl.specs.Tokens.{name}
use Rattle.parser.specs.Cells.{Symbol, tag, token, then_tag, sum_tag, enc_call, enc_choice, enc_init}
use Rattle.parser.specs.Cells.{enc_conjunction, enc_comparison, enc_negation, enc_atom}
use Rattle.parser.specs.Cells.{enc_data as raw_data, enc_datas as raw_datas}
use Rattle.nodes.specs.Scoped.{max_scope}
use Rattle.nodes.specs.Layout.{cell_limit, enc_data, enc_arguments, enc_datas, first_cell, one_if, atom_kind, sum_kind, call_kind, variable_tag, function_tag, enc}
use Rattle.names.specs.NameCells.{or_count, name_at, scope_at}
use Rattle.names.specs.NameKinds.{sorts_in, funcs_in, acts_in, procs_in}
use Rattle.names.specs.declared.Kinds.{Kinds}
use Rattle.names.specs.Standing.{symbols}
use Rattle.names.specs.Rows.{Yields}
use Rattle.parser.specs.declared.Step.{Step}
use Rattle.resolver.specs.declared.DataRun.{DataRun}
use Rattle.resolver.specs.declared.Fork.{Fork}
use Rattle.resolver.specs.Raw.{Term, enc_term, resolve_term, term_depth, sum_depth, tokens_of, kids_of}
use Rattle.resolver.specs.Writing.{Writes}
use Rattle.resolver.specs.Sorting.{first_sort, scope_cells, scope_sorts, scope_results, Gives, KnownSorts, cell_sort}

-- The cells were written and the place stands before the rest,
abbrev pub Took : (raw : List ℕ) (symbols rest : List Symbol) (w : ℕ) (o o' : List ℕ) → List ℕ → Step → Type 0
Took raw symbols rest w o o' e a = (a.at ≤ length raw) × (drop a.at symbols ≡ rest) × Writes e w o a.w o'

-- where there are any; else there is no place.
abbrev pub Outcome : (raw : List ℕ) (symbols rest : List Symbol) (w : ℕ) (o : List ℕ) → Given Step → List ℕ → Option (List ℕ) → Type 0
Outcome raw symbols rest w o r o' X = Yields (Took raw symbols rest w o o') X r

-- the cells of these names, so many of each kind, stand for the declared names
pub record Declared (s names : List ℕ) (kinds : Kinds) (N : Names) : Type 0 where
  pub sorts_are : N.sorts ≡ sorts_in s names kinds
  pub funcs_are : N.funcs ≡ funcs_in s names kinds
  pub acts_are : N.acts ≡ acts_in s names kinds
  pub procs_are : N.procs ≡ procs_in s names kinds

-- so few that numbers fit their cells
pub record FewKinds (kinds : Kinds) : Type 0 where
  pub sorts_few : kinds.sorts ≤ max_sorts
  pub funcs_few : kinds.funcs ≤ max_functions
  pub acts_few : kinds.acts ≤ max_actions
  pub procs_few : kinds.procs ≤ max_processes

pub record Few (raw : List ℕ) (kinds : Kinds) (scope : List ℕ) (n : ℕ) : Type 0 where
  pub raw_few : length raw < cell_limit
  pub kinds_few : FewKinds kinds
  pub scope_many : length scope ≡ scope_cells
  pub in_scope : n ≤ max_scope

module _ (N : Names) (S : Sig) (scope : List Name) (Γ : List ℕ) where
  -- the cells of what is resolved
  unfoldable pub data_cells : RawData → Option (List ℕ)
  data_cells d = do
    e ← resolve_data N S scope Γ d
    some (enc_data e)

  unfoldable pub conjunction_cells : Conjunction → Option (List ℕ)
  conjunction_cells c = do
    e ← resolve_conjunction N S scope Γ c
    some (enc_data e)

  unfoldable pub comparison_cells : Comparison → Option (List ℕ)
  comparison_cells c = do
    e ← resolve_comparison N S scope Γ c
    some (enc_data e)

  unfoldable pub negation_cells : Negation → Option (List ℕ)
  negation_cells a = do
    e ← resolve_negation N S scope Γ a
    some (enc_data e)

  unfoldable pub atom_cells : Atom → Option (List ℕ)
  atom_cells a = do
    e ← resolve_atom N S scope Γ a
    some (enc_data e)

  unfoldable pub datas_cells : RawDatas → Option (List ℕ)
  datas_cells ds = do
    es ← resolve_datas N S scope Γ ds
    some (enc_arguments es)

  -- the data given to a name: how many cells they take, how many they are, and they
  unfoldable pub given_cells : Option RawDatas → Option (List ℕ)
  given_cells ds = do
    es ← resolve_given N S scope Γ ds
    some (length (enc_datas es) ∷ length es ∷ enc_datas es)

  -- a condition alike
  unfoldable pub condition_cells : RawData → Option (List ℕ)
  condition_cells d = do
    e ← resolve_data N S scope Γ d
    some (length (enc_data e) ∷ 1 ∷ enc_data e)

  unfoldable pub term_cells : Bool → Term → Option (List ℕ)
  term_cells after t = do
    p ← resolve_term N S scope Γ t
    some (enc after p)

  -- the sum of a variable, up to its term
  unfoldable pub binder_cells : Bool → Name → Name → Option (List ℕ)
  binder_cells after v D = do
    provided (new_variable N scope v)
    E ← number_of D N.sorts
    some (first_cell E (one_if after) sum_kind ∷ 1 ∷ 1 ∷ (4 * length scope + variable_tag) ∷ [])

unfoldable pub count_of : RawDatas → ℕ
count_of (RawDatas.one d) = 1
count_of (RawDatas.more d ds) = suc (count_of ds)

-- one behind the other
unfoldable pub ◌⊕◌ : Option (List ℕ) → Option (List ℕ) → Option (List ℕ)
a ⊕ b = do
  e ← a
  g ← b
  some (e ++ g)

infixr 60 ◌⊕◌
-- for every term of a kind that stands at `at`, written in the raw tree by enc and in the resolved one by cells
abbrev pub Resolves : {A : Type 0} → (A → List Symbol) → (Names → Sig → List Name → List ℕ → A → Option (List ℕ)) → (s raw names : List ℕ) (kinds : Kinds) (scope : List ℕ) (n at w : ℕ) (o : List ℕ) → Given Step → List ℕ → Type 0
Resolves {A} enc cells s raw names kinds scope n at w o r o' = (N : Names) (S : Sig) (a : A) (rest : List Symbol) → N.funcs ≡ funcs_in s names kinds → KnownSorts kinds scope n S
    → drop at (symbols s raw) ≡ enc a ++ rest → Outcome raw (symbols s raw) rest w o r o' (cells N S (scope_at s scope n) (scope_sorts scope n) a)

abbrev pub ResolvesData : (s raw names : List ℕ) (kinds : Kinds) (scope : List ℕ) (n at w : ℕ) (o : List ℕ) → Given Step → List ℕ → Type 0
ResolvesData = Resolves raw_data data_cells

abbrev pub ResolvesConjunction : (s raw names : List ℕ) (kinds : Kinds) (scope : List ℕ) (n at w : ℕ) (o : List ℕ) → Given Step → List ℕ → Type 0
ResolvesConjunction = Resolves enc_conjunction conjunction_cells

abbrev pub ResolvesComparison : (s raw names : List ℕ) (kinds : Kinds) (scope : List ℕ) (n at w : ℕ) (o : List ℕ) → Given Step → List ℕ → Type 0
ResolvesComparison = Resolves enc_comparison comparison_cells

abbrev pub ResolvesNegation : (s raw names : List ℕ) (kinds : Kinds) (scope : List ℕ) (n at w : ℕ) (o : List ℕ) → Given Step → List ℕ → Type 0
ResolvesNegation = Resolves enc_negation negation_cells

abbrev pub ResolvesAtom : (s raw names : List ℕ) (kinds : Kinds) (scope : List ℕ) (n at w : ℕ) (o : List ℕ) → Given Step → List ℕ → Type 0
ResolvesAtom = Resolves enc_atom atom_cells

-- data terms, and how many they are
abbrev pub Listed : (raw : List ℕ) (symbols rest : List Symbol) (w : ℕ) (o o' : List ℕ) → RawDatas → List ℕ → DataRun → Type 0
Listed raw symbols rest w o o' ds e l = Took raw symbols rest w o o' e (record { at = l.at; w = l.w }) × (l.count ≡ count_of ds) × (l.count < cell_limit)

abbrev pub ResolvesDatas : (s raw names : List ℕ) (kinds : Kinds) (scope : List ℕ) (n at w : ℕ) (o : List ℕ) → Given DataRun → List ℕ → Type 0
ResolvesDatas s raw names kinds scope n at w o r o' = (N : Names) (S : Sig) (ds : RawDatas) (rest : List Symbol) → N.funcs ≡ funcs_in s names kinds → KnownSorts kinds scope n S
    → drop at (symbols s raw) ≡ raw_datas ds ++ rest
    → Yields (Listed raw (symbols s raw) rest w o o' ds) (datas_cells N S (scope_at s scope n) (scope_sorts scope n) ds) r

abbrev pub ResolvesGiven : (s raw names : List ℕ) (kinds : Kinds) (scope : List ℕ) (n at w : ℕ) (o : List ℕ) → Given Step → List ℕ → Type 0
ResolvesGiven s raw names kinds scope n at w o r o' = (N : Names) (S : Sig) (x : Name) (ds : Option RawDatas) (rest : List Symbol)
    → N.funcs ≡ funcs_in s names kinds → KnownSorts kinds scope n S
    → drop at (symbols s raw) ≡ enc_call x ds ++ rest → Outcome raw (symbols s raw) rest w o r o' (given_cells N S (scope_at s scope n) (scope_sorts scope n) ds)

abbrev pub ResolvesCondition : (s raw names : List ℕ) (kinds : Kinds) (scope : List ℕ) (n at w : ℕ) (o : List ℕ) → Given Step → List ℕ → Type 0
ResolvesCondition = Resolves raw_data condition_cells

-- the cell of `==` over data with these first cells, if it fits
abbrev pub EqualCell : (scope : List ℕ) (c d : ℕ) → ℕ → Type 0
EqualCell scope c d r = (N : Names) (S : Sig) → 4 * equal_at N S (cell_sort scope c) (cell_sort scope d) + function_tag < cell_limit → r ≡ 4 * equal_at N S (cell_sort scope c) (cell_sort scope d) + function_tag

-- so many times a function of two arguments, before the first of them
unfoldable pub joins : ℕ → ℕ → List ℕ
joins c zero = []
joins c (suc k) = c ∷ 2 ∷ joins c k

-- an action, or else a process
unfoldable pub Naming : Bool → Option ℕ → Option ℕ → Given ℕ → Type 0
Naming after (some a) k r = r ≡ Some (first_cell (a + 1) (one_if after) atom_kind)
Naming after none (some k) r = r ≡ Some (first_cell k 0 call_kind)
Naming after none none r = r ≡ None

-- the node of a sum, up to its term; if it is written, the variable is in scope
abbrev pub Binds : (s raw names : List ℕ) (kinds : Kinds) (scope : List ℕ) (n at : ℕ) → Bool → (w : ℕ) (o : List ℕ) → Given Step → List ℕ → Type 0
Binds s raw names kinds scope n at after w o r o' = (N : Names) (S : Sig) (x D : Name) (rest : List Symbol) → Declared s names kinds N
    → drop at (symbols s raw) ≡ tag sum_tag ∷ token (name x) ∷ token (name D) ∷ rest → n < max_scope
    → Outcome raw (symbols s raw) rest w o r o' (binder_cells N S (scope_at s scope n) (scope_sorts scope n) after x D)

-- the number of a sort by its name's cell
abbrev pub sort_found : (s names : List ℕ) → Kinds → ℕ → ℕ
sort_found s names kinds c = or_count (suc kinds.sorts) (number_of (name_at s c) (sorts_in s names kinds))

abbrev pub InScope : (s raw names : List ℕ) (kinds : Kinds) (scope : List ℕ) (n at : ℕ) → Given Step → List ℕ → Type 0
InScope s raw names kinds scope n at r scope' =
    IfSome r (λ a. (n < max_scope) × (scope' ≡ set (set scope n (get_or raw (at + 1) 0)) (first_sort + n) (sort_found s names kinds (get_or raw (at + 2) 0))))

-- delta or tau
abbrev pub ResolvesConstant : (raw : List ℕ) (at : ℕ) → Bool → (w : ℕ) (o : List ℕ) → Given Step → List ℕ → Type 0
ResolvesConstant raw at after w o r o' = (s : List ℕ) (N : Names) (S : Sig) (scope : List Name) (Γ : List ℕ) (t : Term) (rest : List Symbol) → drop at (symbols s raw) ≡ enc_term t ++ rest
    → tokens_of (get_or raw at 0) ≡ 0 → kids_of (get_or raw at 0) ≡ 0 → Outcome raw (symbols s raw) rest w o r o' (term_cells N S scope Γ after t)

-- a name, with or without data
abbrev pub ResolvesNamed : (s raw names : List ℕ) (kinds : Kinds) (scope : List ℕ) (n at : ℕ) → Bool → (w : ℕ) (o : List ℕ) → Given Step → List ℕ → Type 0
ResolvesNamed s raw names kinds scope n at after w o r o' = (N : Names) (S : Sig) (t : Term) (rest : List Symbol) → KnownSorts kinds scope n S
    → N.funcs ≡ funcs_in s names kinds → N.acts ≡ acts_in s names kinds → N.procs ≡ procs_in s names kinds
    → drop at (symbols s raw) ≡ enc_term t ++ rest → 0 < tokens_of (get_or raw at 0) → (get_or raw at 0 ≡ sum_tag → ⊥)
    → Outcome raw (symbols s raw) rest w o r o' (term_cells N S (scope_at s scope n) (scope_sorts scope n) after t)

-- A term of two parts: its cells are those of its head, of the first and of the second.
-- The second stands behind the first, or, if that is further on, behind what was read for the head.
pub record Forked (s raw : List ℕ) (N : Names) (S : Sig) (scope : List Name) (Γ : List ℕ) (at : ℕ) (after : Bool) (t : Term) (rest : List Symbol) (w : ℕ) (o : List ℕ) (r : Fork) (o' : List ℕ) : Type 0 where
  pub first : Term
  pub second : Term
  pub between : List Symbol
  pub head : Option (List ℕ)
  pub first_at : drop (at + 1) (symbols s raw) ≡ enc_term first ++ between
  pub first_depth : term_depth first ≤ term_depth t
  pub second_depth : term_depth second ≤ term_depth t
  pub cells : term_cells N S scope Γ after t ≡ head ⊕ (term_cells N S scope Γ r.left first ⊕ term_cells N S scope Γ (eqb (get_or raw at 0) then_tag) second)
  pub outcome : (p next : ℕ) → at < p → p ≤ length raw → drop p (symbols s raw) ≡ between → next ≡ max p r.at
      → Outcome raw (symbols s raw) (enc_term second ++ rest) w o (Some (record { at = next; w = r.w })) o' head

abbrev pub Forks : (s raw names : List ℕ) (kinds : Kinds) (scope : List ℕ) (n at : ℕ) → Bool → (w : ℕ) (o : List ℕ) → Given Fork → List ℕ → Type 0
Forks s raw names kinds scope n at after w o r o' = (N : Names) (S : Sig) (t : Term) (rest : List Symbol) → N.funcs ≡ funcs_in s names kinds → KnownSorts kinds scope n S
    → drop at (symbols s raw) ≡ enc_term t ++ rest → 1 < kids_of (get_or raw at 0)
    → MatchOption r (term_cells N S (scope_at s scope n) (scope_sorts scope n) after t ≡ none) (λ f. Forked s raw N S (scope_at s scope n) (scope_sorts scope n) at after t rest w o f o')

-- A term of two parts, up to its second: its cells are those of the head, now with the first part, and of the second.
pub record Halved (s raw : List ℕ) (N : Names) (S : Sig) (scope : List Name) (Γ : List ℕ) (at : ℕ) (after : Bool) (t : Term) (rest : List Symbol) (w : ℕ) (o : List ℕ) (r : Step) (o' : List ℕ) : Type 0 where
  pub second : Term
  pub head : Option (List ℕ)
  pub second_depth : term_depth second ≤ term_depth t
  pub cells : term_cells N S scope Γ after t ≡ head ⊕ term_cells N S scope Γ (eqb (get_or raw at 0) then_tag) second
  pub outcome : Outcome raw (symbols s raw) (enc_term second ++ rest) w o (Some r) o' head

module _ (s raw names : List ℕ) (kinds : Kinds) (scope : List ℕ) (n : ℕ) where
  abbrev pub ResolvesTerm : (at : ℕ) → Bool → ℕ → List ℕ → Given Step → List ℕ → Type 0
  ResolvesTerm at after w o r o' = (N : Names) (S : Sig) (t : Term) (rest : List Symbol) → Declared s names kinds N → KnownSorts kinds scope n S
      → drop at (symbols s raw) ≡ enc_term t ++ rest → n + term_depth t ≤ max_scope
      → Outcome raw (symbols s raw) rest w o r o' (term_cells N S (scope_at s scope n) (scope_sorts scope n) after t)

  abbrev pub ResolvesFirst : (at : ℕ) → Bool → ℕ → List ℕ → Given Step → List ℕ → Type 0
  ResolvesFirst at after w o r o' = (N : Names) (S : Sig) (t : Term) (rest : List Symbol) → Declared s names kinds N → KnownSorts kinds scope n S
      → drop at (symbols s raw) ≡ enc_term t ++ rest → n + term_depth t ≤ max_scope → 1 < kids_of (get_or raw at 0)
      → MatchOption r (term_cells N S (scope_at s scope n) (scope_sorts scope n) after t ≡ none) (λ a. Halved s raw N S (scope_at s scope n) (scope_sorts scope n) at after t rest w o a o')

-- ---- what the layers above are told
-- Resolved or not. If so: the place behind the raw term, and the term's cells behind those before w, if there was room.
unfoldable pub Answers : List Symbol → List Symbol → ℕ → List ℕ → Option Proc → Given Step → List ℕ → Type 0
Answers symbols rest w o p r o' = Yields (λ p a. (drop a.at symbols ≡ rest) × Writes (enc false p) w o a.w o') p r

-- for every choice that stands at `at`
abbrev pub ResolvesRight : (s raw names : List ℕ) (kinds : Kinds) (scope : List ℕ) (n at w : ℕ) (o : List ℕ) → Given Step → List ℕ → Type 0
ResolvesRight s raw names kinds scope n at w o r o' = (N : Names) (S : Sig) (t : Choice) (rest : List Symbol) → Declared s names kinds N → KnownSorts kinds scope n S
    → drop at (symbols s raw) ≡ enc_choice t ++ rest → n + sum_depth t ≤ max_scope → Answers (symbols s raw) rest w o (resolve_choice N S (scope_at s scope n) (scope_sorts scope n) t) r o'

abbrev pub called : Option (ℕ × List Data) → Option Proc
called none = none
called (some s) = some (call s.0 s.1)

-- for every line of init that stands at `at`
abbrev pub ResolvesInit : (s raw names : List ℕ) (kinds : Kinds) (scope : List ℕ) (at w : ℕ) (o : List ℕ) → Given Step → List ℕ → Type 0
ResolvesInit s raw names kinds scope at w o r o' = (N : Names) (S : Sig) (l : InitLine) (rest : List Symbol) → Gives kinds (scope_results scope) S → N.funcs ≡ funcs_in s names kinds → N.procs ≡ procs_in s names kinds
    → drop at (symbols s raw) ≡ enc_init l ++ rest → Answers (symbols s raw) rest w o (called (resolve_init N S l)) r o'
