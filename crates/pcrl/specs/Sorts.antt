-- Question 8: counts of arguments, sorts, numerals, function values.
use Rattle.std.specs.Prelude.{◌≡◌, List, [], ◌∷◌, true, false, ℕ, ◌*◌, ◌<◌, eqb, length, get_or}
use Rattle.std.proofs.Math.Option.{Option, none, some}
use Rattle.std.proofs.Math.Decide.{ℕ_discrete, dec_lt}
use Rattle.std.proofs.Math.ListN.{get_elem?}
use Rattle.pcrl.specs.Tests.{both?, below?, some?, Every, every?, Each, each?}
use Rattle.pcrl.specs.Sheet.{Data, val, var, app, Datas, nil, cons, Act, tau, action, Proc, delta, atom, alt, cond, sum, seq, call, Func, Sig, Process, Sheet, Operation, operation, size, function_at, takes_of, params, right}

-- the sorts of the variables in scope, by their numbers
abbrev pub Scope : Type 0
Scope = ℕ → Option ℕ

-- no variable
abbrev pub closed : Scope
closed i = none

-- one variable more
unfoldable pub binding : ℕ → ℕ → Scope → Scope
binding x D Γ i = elim (eqb i x) [ true ↦ some D | false ↦ Γ i ]

-- sort 0, of the values 0 (false) and 1 (true)
abbrev pub Bool_sort : ℕ
Bool_sort = 0

-- a function that is there
unfoldable pub IsOperation : Sig → Operation → Type 0
IsOperation S (Operation.written f) = f < length S.funcs
IsOperation S Operation.not = Unit {0}
IsOperation S Operation.and = Unit {0}
IsOperation S Operation.or = Unit {0}
IsOperation S (Operation.equal D) = D < length S.sorts
IsOperation S Operation.unsorted = ⊥

unfoldable pub is_operation? : (S : Sig) (o : Operation) → Dec (IsOperation S o)
unfolding IsOperation
is_operation? S (Operation.written f) = dec_lt f (length S.funcs)
is_operation? S Operation.not = yes tt
is_operation? S Operation.and = yes tt
is_operation? S Operation.or = yes tt
is_operation? S (Operation.equal D) = dec_lt D (length S.sorts)
is_operation? S Operation.unsorted = no (λ x. x)

abbrev pub IsFunc : Sig → ℕ → Type 0
IsFunc S f = IsOperation S (operation f)

abbrev pub is_func? : (S : Sig) (f : ℕ) → Dec (IsFunc S f)
is_func? S f = is_operation? S (operation f)

module _ (S : Sig) (Γ : Scope) where
  unfoldable mutual
    -- A numeral takes the sort of its place: "numerals below their sort's size".
    pub HasSort : Data → ℕ → Type 0
    HasSort (val v) D = v < size S D
    HasSort (var i) D = Γ i ≡ some D
    HasSort (app f ds) D = IsFunc S f × (((function_at S f).gives ≡ D) × HaveSorts ds (function_at S f).takes)

    -- as many as sorts, each of its sort
    pub HaveSorts : Datas → List ℕ → Type 0
    HaveSorts nil [] = Unit {0}
    HaveSorts nil (D ∷ Ds) = ⊥
    HaveSorts (cons d ds) [] = ⊥
    HaveSorts (cons d ds) (D ∷ Ds) = HasSort d D × HaveSorts ds Ds

  unfoldable mutual
    unfolding HasSort

    pub has_sort? : (d : Data) (D : ℕ) → Dec (HasSort d D)
    has_sort? (val v) D = dec_lt v (size S D)
    has_sort? (var i) D = some? (Γ i) D
    has_sort? (app f ds) D = both? (is_func? S f) (both? (ℕ_discrete (function_at S f).gives D) (have_sorts? ds (function_at S f).takes))

    pub have_sorts? : (ds : Datas) (Ds : List ℕ) → Dec (HaveSorts ds Ds)
    have_sorts? nil [] = yes tt
    have_sorts? nil (D ∷ Ds) = no (λ x. x)
    have_sorts? (cons d ds) [] = no (λ x. x)
    have_sorts? (cons d ds) (D ∷ Ds) = both? (has_sort? d D) (have_sorts? ds Ds)

  -- "Argument counts and sorts right": of an action or a call
  abbrev pub Arguments : List Data → List ℕ → Type 0
  Arguments ds Ds = Each HasSort ds Ds

  unfoldable pub arguments? : (ds : List Data) (Ds : List ℕ) → Dec (Arguments ds Ds)
  arguments? ds Ds = each? has_sort? ds Ds

-- an action that is there
unfoldable pub IsAct : Sig → Act → Type 0
IsAct S tau = Unit {0}
IsAct S (action a) = a < length S.acts

unfoldable pub is_act? : (S : Sig) (a : Act) → Dec (IsAct S a)
unfolding IsAct
is_act? S tau = yes tt
is_act? S (action a) = dec_lt a (length S.acts)

module _ (H : Sheet) where
  -- a process term that is rightly sorted where Γ is in scope
  unfoldable pub Sorted : Scope → Proc → Type 0
  Sorted Γ delta = Unit {0}
  Sorted Γ (atom a ds) = IsAct H.sig a × Arguments H.sig Γ ds (takes_of H.sig a)
  Sorted Γ (alt p q) = Sorted Γ p × Sorted Γ q
  -- "conditions Bool"
  Sorted Γ (cond c p q) = HasSort H.sig Γ c Bool_sort × (Sorted Γ p × Sorted Γ q)
  Sorted Γ (sum x D p) = (D < length H.sig.sorts) × Sorted (binding x D Γ) p
  Sorted Γ (seq p q) = Sorted Γ p × Sorted Γ q
  Sorted Γ (call k ds) = (k < length H.procs) × Arguments H.sig Γ ds (params H k)

  unfoldable pub sorted? : (Γ : Scope) (p : Proc) → Dec (Sorted Γ p)
  unfolding Sorted
  sorted? Γ delta = yes tt
  sorted? Γ (atom a ds) = both? (is_act? H.sig a) (arguments? H.sig Γ ds (takes_of H.sig a))
  sorted? Γ (alt p q) = both? (sorted? Γ p) (sorted? Γ q)
  sorted? Γ (cond c p q) = both? (has_sort? H.sig Γ c Bool_sort) (both? (sorted? Γ p) (sorted? Γ q))
  sorted? Γ (sum x D p) = both? (dec_lt D (length H.sig.sorts)) (sorted? (binding x D Γ) p)
  sorted? Γ (seq p q) = both? (sorted? Γ p) (sorted? Γ q)
  sorted? Γ (call k ds) = both? (dec_lt k (length H.procs)) (arguments? H.sig Γ ds (params H k))

-- how many values a function of these sorts has
unfoldable pub volume : List ℕ → List ℕ → ℕ
volume sizes [] = 1
volume sizes (D ∷ Ds) = get_or sizes D 0 * volume sizes Ds

-- "function values complete and in range"
unfoldable pub Complete : Sig → Func → Type 0
Complete S g = (length g.values ≡ volume S.sorts g.takes) × Every (λ v. v < size S g.gives) g.values

unfoldable pub complete? : (S : Sig) (g : Func) → Dec (Complete S g)
unfolding Complete
complete? S g = both? (ℕ_discrete (length g.values) (volume S.sorts g.takes)) (every? (below? (size S g.gives)) g.values)

-- 8: "Argument counts and sorts right, conditions Bool, numerals below their sort's size, function values complete and in range?"
unfoldable pub RightlySorted : Sheet → Type 0
RightlySorted H =
    Every (Complete H.sig) H.sig.funcs
    × (Every (λ (p : Process). Sorted H (get_elem? p.params) p.right) H.procs
    × Sorted H closed (call H.start.0 H.start.1))

unfoldable pub rightly_sorted? : (H : Sheet) → Dec (RightlySorted H)
unfolding RightlySorted
rightly_sorted? H =
    both? (every? (complete? H.sig) H.sig.funcs)
    (both? (every? (λ (p : Process). sorted? H (get_elem? p.params) p.right) H.procs) (sorted? H closed (call H.start.0 H.start.1)))
