-- What the code of question 8 says, function by function: for every term whose cells stand at a place.
use Rattle.std.specs.Prelude.{◌≡◌, List, [], ◌∷◌, ◌++◌, Bool, ℕ, Option, MatchOption, ◌+◌, ◌-◌, ◌<◌, ◌≤◌, length, drop, set, replicate}
use Rattle.std.proofs.Math.ListN.{get_elem?}
use Rattle.pcrl.specs.Limits.{frame_width, max_arity}
use Rattle.pcrl.specs.Tests.{Each, Every}
use Rattle.pcrl.specs.Sheet.{Data, Act, Proc, delta, atom, alt, cond, sum, seq, call, Func, Sig, Process, Sheet, first_equal, function_at, takes_of, params}
use Rattle.pcrl.specs.Sorts.{Scope, Bool_sort, IsFunc, HasSort, Arguments, IsAct, Sorted, volume, Complete, RightlySorted}
use Rattle.laws.specs.Says.{Says}
use Rattle.nodes.specs.declared.Outline.{Outline}
use Rattle.nodes.specs.declared.Datum.{Datum}
use Rattle.nodes.specs.declared.Node.{Node}
use Rattle.nodes.specs.Layout.{function_tag, enc_datas, Item, enc}
use Rattle.nodes.specs.Scoped.{max_scope, ScopedData, Scoped}
use Rattle.nodes.specs.Held.{SortsAt, FuncAt, HeldSig, HeldProcs, Held}
use Rattle.nodes.specs.Views.{OpenedData, Opened}
use Rattle.checker.specs.declared.operators.Operator.{Operator}
use Rattle.checker.specs.Fits.{Fits, ArgumentsFit, Inside, BoolsBefore}
use Rattle.checker.specs.Known.{KnownSizes, KnownSheet, InScope, Around}

-- where a row starts is below this: a row's number is at most a cell
abbrev pub start_limit : ℕ
start_limit = 1048576

-- what function f is: it is there, takes so many data, all of one sort, and gives Bool
pub record Operates (S : Sig) (f : ℕ) (r : Operator) : Type 0 where
  pub is_there : IsFunc S f
  pub takes_are : (function_at S f).takes ≡ replicate r.count r.sort
  pub gives_Bool : (function_at S f).gives ≡ Bool_sort

-- function f where it is none: it is not there, takes nothing, or two of the sort that `==` would compare, and gives Bool
pub record NoOperator (S : Sig) (f : ℕ) : Type 0 where
  pub is_none : IsFunc S f → ⊥
  pub takes_none : f < first_equal → (function_at S f).takes ≡ []
  pub takes_two : first_equal ≤ f → (function_at S f).takes ≡ replicate 2 (f - first_equal)
  pub gives_Bool : (function_at S f).gives ≡ Bool_sort

-- a number that is no written function's, where there are m sorts: an operator's, or none's
abbrev pub OperatorSays : ℕ → ℕ → Option Operator → Type 0
OperatorSays f m r = (S : Sig) → m ≡ length S.sorts → length S.funcs ≤ f → MatchOption r (NoOperator S f) (Operates S f)

-- a node that takes r Bools, if any, has as many arguments
abbrev pub TakesBools : Datum → ℕ → Type 0
TakesBools d r =
    0 < r → (d.tag ≡ function_tag) × (d.kids ≡ r) × ((S : Sig) → Operates S d.number (record { count = r; sort = Bool_sort }))

-- Where count data terms stand at one place and k at another, and then the same ones: the first fit Bool if and only if the others do.
abbrev pub BoolsAt : List ℕ → ℕ → ℕ → ℕ → ℕ → Type 0
BoolsAt cells at count p k =
    (S : Sig) (Γ : Scope) (m : ℕ) (xs ds : List Data) (rest : List ℕ) → Every (ScopedData m) xs → length xs ≡ count → drop at cells ≡ enc_datas (xs ++ ds) ++ rest
    → (ys : List Data) × (length ys ≡ k) × (drop p cells ≡ enc_datas (ys ++ ds) ++ rest) × Every (ScopedData m) ys
    × (BoolsBefore S Γ ds ys → BoolsBefore S Γ ds xs) × (BoolsBefore S Γ ds xs → BoolsBefore S Γ ds ys)

module _ (cells scope sizes funcs : List ℕ) (n : Outline) where
  -- the first node of the data term at a place
  abbrev pub FitsAt : ℕ → ℕ → Bool → Type 0
  FitsAt at sort r =
      (w : Around scope sizes funcs n) (d : Data) (ds : List Data) (rest : List ℕ) → ScopedData w.level d → drop at cells ≡ enc_datas (d ∷ ds) ++ rest
      → Says r (Fits w.sig w.vars d sort)

  -- the first nodes of data terms, against a row of sorts
  abbrev pub EachFitsAt : ℕ → ℕ → List ℕ → ℕ → Bool → Type 0
  EachFitsAt at count row start r =
      (w : Around scope sizes funcs n) (ds : List Data) (Ds rest : List ℕ) → Every (ScopedData w.level) ds → length ds ≡ count → SortsAt Ds row start → drop at cells ≡ enc_datas ds ++ rest
      → Says r (Each (Fits w.sig w.vars) ds Ds)

  -- the first nodes of data terms, against one sort
  abbrev pub EveryFitsAt : ℕ → ℕ → ℕ → Bool → Type 0
  EveryFitsAt at count sort r =
      (w : Around scope sizes funcs n) (ds : List Data) (rest : List ℕ) → Every (ScopedData w.level) ds → length ds ≡ count → drop at cells ≡ enc_datas ds ++ rest
      → Says r (Every (λ d. Fits w.sig w.vars d sort) ds)

  -- the arguments of one node
  abbrev pub ArgumentsFitAt : Datum → Bool → Type 0
  ArgumentsFitAt d r =
      (w : Around scope sizes funcs n) (x : Data) (ds : List Data) (rest : List ℕ) → ScopedData w.level x → OpenedData cells x ds rest d
      → Says r (ArgumentsFit w.sig w.vars x)

  -- the arguments of every node of data terms
  abbrev pub AllFitAt : ℕ → ℕ → Bool → Type 0
  AllFitAt at count r =
      (w : Around scope sizes funcs n) (ds : List Data) (rest : List ℕ) → Every (ScopedData w.level) ds → length ds ≡ count → drop at cells ≡ enc_datas ds ++ rest
      → Says r (Every (Inside w.sig w.vars) ds)

  -- data terms have the sorts of a row
  abbrev pub ArgumentsAt : ℕ → ℕ → List ℕ → ℕ → Bool → Type 0
  ArgumentsAt at count row start r =
      (w : Around scope sizes funcs n) (ds : List Data) (Ds rest : List ℕ) → Every (ScopedData w.level) ds → length ds ≡ count → SortsAt Ds row start → drop at cells ≡ enc_datas ds ++ rest
      → Says r (Arguments w.sig w.vars ds Ds)

-- what is asked of a term's first node
module _ (H : Sheet) where
  unfoldable pub NodeSorted : Scope → Proc → Type 0
  NodeSorted Γ delta = Unit {0}
  NodeSorted Γ (atom a ds) = IsAct H.sig a × Arguments H.sig Γ ds (takes_of H.sig a)
  NodeSorted Γ (alt p q) = Unit {0}
  NodeSorted Γ (cond c p q) = HasSort H.sig Γ c Bool_sort
  NodeSorted Γ (sum x D p) = D < length H.sig.sorts
  NodeSorted Γ (seq p q) = Unit {0}
  NodeSorted Γ (call k ds) = (k < length H.procs) × Arguments H.sig Γ ds (params H k)

module _ (cells scope sizes funcs acts procs : List ℕ) (n : Outline) (d : Node) where
  -- the node of an action or tau, of a call, of a conditional, of any term
  abbrev pub AtomSays : Bool → Type 0
  AtomSays r =
      (H : Sheet) → KnownSheet H sizes funcs acts procs n → (Γ : Scope) (m : ℕ) → InScope Γ m scope → (b : Bool) (a : Act) (ds : List Data) (xs : List Item) (rest : List ℕ)
      → Every (ScopedData m) ds → Opened cells b (atom a ds) xs rest d → Says r (IsAct H.sig a × Arguments H.sig Γ ds (takes_of H.sig a))

  abbrev pub CallSays : Bool → Type 0
  CallSays r =
      (H : Sheet) → KnownSheet H sizes funcs acts procs n → (Γ : Scope) (m : ℕ) → InScope Γ m scope → (b : Bool) (k : ℕ) (ds : List Data) (xs : List Item) (rest : List ℕ)
      → Every (ScopedData m) ds → Opened cells b (call k ds) xs rest d → Says r ((k < length H.procs) × Arguments H.sig Γ ds (params H k))

  abbrev pub CondSays : Bool → Type 0
  CondSays r =
      (H : Sheet) → KnownSheet H sizes funcs acts procs n → (Γ : Scope) (m : ℕ) → InScope Γ m scope → (b : Bool) (c : Data) (p q : Proc) (xs : List Item) (rest : List ℕ)
      → ScopedData m c → Opened cells b (cond c p q) xs rest d → Says r (HasSort H.sig Γ c Bool_sort)

  abbrev pub NodeSays : Bool → Type 0
  NodeSays r =
      (H : Sheet) → KnownSheet H sizes funcs acts procs n → (Γ : Scope) (m : ℕ) → InScope Γ m scope → (b : Bool) (p : Proc) (xs : List Item) (rest : List ℕ)
      → Scoped n.procs m p → Opened cells b p xs rest d → Says r (NodeSorted H Γ p)

-- A sum binds its variable, no other node does.
unfoldable pub Bound : Proc → List ℕ → List ℕ → Type 0
Bound delta s s' = s' ≡ s
Bound (atom a ds) s s' = s' ≡ s
Bound (alt p q) s s' = s' ≡ s
Bound (cond c p q) s s' = s' ≡ s
Bound (sum x D p) s s' = x < max_scope → s' ≡ set s x D
Bound (seq p q) s s' = s' ≡ s
Bound (call k ds) s s' = s' ≡ s

abbrev pub Binds : List ℕ → Node → List ℕ → List ℕ → Type 0
Binds cells d s s' = (b : Bool) (p : Proc) (xs : List Item) (rest : List ℕ) → Opened cells b p xs rest d → Bound p s s'

-- the term at a place, where the first m variables are in scope
abbrev pub TermSays : List ℕ → ℕ → List ℕ → List ℕ → List ℕ → List ℕ → List ℕ → Outline → Bool → Type 0
TermSays cells at scope sizes funcs acts procs n r =
    (H : Sheet) → KnownSheet H sizes funcs acts procs n → (Γ : Scope) (m : ℕ) → InScope Γ m scope → (b : Bool) (p : Proc) (rest : List ℕ)
    → Scoped n.procs m p → drop at cells ≡ enc b p ++ rest → Says r (Sorted H Γ p)

-- the sorts of a process's parameters, as the variables in scope
abbrev pub ParamsInScope : List ℕ → ℕ → List ℕ → Type 0
ParamsInScope procs start scope = (Ds : List ℕ) → SortsAt Ds procs start → length Ds ≤ frame_width → InScope (get_elem? Ds) (length Ds) scope

abbrev pub ProcessesSay : List ℕ → List ℕ → List ℕ → List ℕ → List ℕ → List ℕ → Outline → Bool → Type 0
ProcessesSay cells starts sizes funcs acts procs n r =
    (H : Sheet) → KnownSheet H sizes funcs acts procs n → HeldProcs H procs cells starts n → Says r (Every (λ (p : Process). Sorted H (get_elem? p.params) p.right) H.procs)

-- how many values a function of one or two sorts has
abbrev pub VolumeIs : List ℕ → ℕ → List ℕ → ℕ → ℕ → Type 0
VolumeIs funcs start sizes sorts r = (S : Sig) → KnownSizes S sizes sorts → (Ds : List ℕ) → SortsAt Ds funcs start → 1 ≤ length Ds → length Ds ≤ max_arity → r ≡ volume S.sorts Ds

abbrev pub AllBelow : List ℕ → ℕ → ℕ → ℕ → Bool → Type 0
AllBelow values from to z r = (vs rest : List ℕ) → drop from values ≡ vs ++ rest → to ≡ from + length vs → Says r (Every (λ v. v < z) vs)

abbrev pub CompleteSays : List ℕ → ℕ → List ℕ → List ℕ → List ℕ → ℕ → Bool → Type 0
CompleteSays funcs f values places sizes sorts r = (S : Sig) → KnownSizes S sizes sorts → (g : Func) → FuncAt g funcs values places f → Says r (Complete S g)

abbrev pub FunctionsSay : List ℕ → List ℕ → List ℕ → List ℕ → Outline → Bool → Type 0
FunctionsSay funcs values places sizes n r = (S : Sig) (acts : List ℕ) → HeldSig S sizes funcs values places acts n → Says r (Every (Complete S) S.funcs)

-- question 8 of the sheet that the arrays hold
abbrev pub SheetSays : (sizes funcs values places acts procs cells starts : List ℕ) → Outline → Bool → Type 0
SheetSays sizes funcs values places acts procs cells starts n r =
    (H : Sheet) → Held H (record { sizes = sizes; funcs = funcs; values = values; places = places; acts = acts; procs = procs; cells = cells; starts = starts }) n → Says r (RightlySorted H)
