-- What the printer and the resolver ask of a table: numerals of at most 255, numbers of things that are there, as many operands as a function or
-- an operator takes, and `==` over data of its sort. A right table has it.
use Rattle.std.specs.Prelude.{◌≡◌, ℕ, ◌+◌, ◌<◌, ◌≤◌, get_or}
use Rattle.std.proofs.Math.Path.{refl}
use Rattle.std.proofs.Common.{subst}
use mathlib.Core.List.{List, [], ◌∷◌, ◌++◌, map}
use Rattle.std.proofs.Math.Option.{some}
use native.Mathlib.Omega.{arith}
use Rattle.std.proofs.Math.ListN.{length, get_elem?, length-append, length-map}
use Rattle.pcrl.specs.Limits.{max_numeral, max_variables, frame_width, max_equations}
use Rattle.pcrl.specs.Tests.{Every, Each}
use Rattle.pcrl.specs.Sheet.{Data, val, var, app, Datas, nil, cons, list_of, Act, tau, action, no_func, Sig, Operation, operation, size, func, function, function_at, takes_of}
use Rattle.pcrl.specs.Sorts.{Bool_sort, IsOperation, HasSort, HaveSorts, IsAct}
use Rattle.pcrl.specs.Table.{Summand, Equation, Table, params_of, summands_of}
use Rattle.pcrl.specs.Right.{RightSizes, RightFunc, RightSig, RightSorts, RightTerm, RightCond, RightCall, RightSummand, RightSummands, RightEquations, RightStart, RightTable}
use Rattle.laws.specs.Lists.{below_some}
use Rattle.laws.specs.Every.{every_at, every_weaken, every_of_all, map_every, every_both}
use Rattle.laws.specs.Each.{each_every}
use Rattle.laws.specs.DataSorts.{have_sorts_many}
use Rattle.codec.specs.StreamLaws.{small_size}
use Rattle.printing.specs.SortNames.{PlainNames, right_names}

-- data over the functions of S and variables of the sorts Γ
module _ (S : Sig) (Γ : List ℕ) where
  -- the sort that data has by itself is D; a value has none
  unfoldable pub OwnSort : ℕ → Data → Type 0
  OwnSort D (val v) = Unit {0}
  OwnSort D (var i) = get_elem? Γ i ≡ some D
  OwnSort D (app f ds) = (function_at S f).gives ≡ D

  -- a function or an operator, over these data
  unfoldable pub PlainUse : Operation → List Data → Type 0
  PlainUse (Operation.written f) ds = (f < length S.funcs) × (1 ≤ length ds)
  PlainUse Operation.not ds = length ds ≡ 1
  PlainUse Operation.and ds = length ds ≡ 2
  PlainUse Operation.or ds = length ds ≡ 2
  PlainUse (Operation.equal D) ds = (length ds ≡ 2) × Every (OwnSort D) ds
  PlainUse Operation.unsorted ds = ⊥

  unfoldable mutual
    pub Plain : Data → Type 0
    Plain (val v) = v ≤ max_numeral
    Plain (var i) = i < length Γ
    Plain (app f ds) = PlainUse (operation f) (list_of ds) × PlainAll ds

    pub PlainAll : Datas → Type 0
    PlainAll nil = Unit {0}
    PlainAll (cons d ds) = Plain d × PlainAll ds

-- an action that is there, or tau with no data
unfoldable pub PlainAct : Sig → Act → List Data → Type 0
PlainAct S tau ds = ds ≡ []
PlainAct S (action a) ds = a < length S.acts

module _ (T : Table) where
  -- a term, a condition and a call where variables of the sorts Γ are in scope
  abbrev pub PlainTerm : List ℕ → Data → Type 0
  PlainTerm Γ d = Plain T.sig Γ d

  abbrev pub PlainCond : List ℕ → ℕ × Data → Type 0
  PlainCond Γ c = (c.0 < 2) × PlainTerm Γ c.1

  abbrev pub PlainCall : List ℕ → ℕ × List Data → Type 0
  PlainCall Γ c = (c.0 < length T.equations) × Every (PlainTerm Γ) c.1

  -- a summand behind parameters of the sorts Δ
  pub record PlainSummand (Δ : List ℕ) (h : Summand) : Type 0 where
    pub few : length (Δ ++ h.vars) ≤ frame_width + max_variables
    pub vars : Every (λ D. D < length T.sig.sorts) h.vars
    pub conds : Every (PlainCond (Δ ++ h.vars)) h.conds
    pub act : PlainAct T.sig h.act h.terms
    pub terms : Every (PlainTerm (Δ ++ h.vars)) h.terms
    pub calls : Every (PlainCall (Δ ++ h.vars)) h.calls

  pub record PlainEquation (q : Equation) : Type 0 where
    pub few : length q.params ≤ frame_width
    pub params : Every (λ D. D < length T.sig.sorts) q.params
    pub summands : Every (PlainSummand q.params) q.summands

  pub record PlainTable : Type 0 where
    pub signature : RightSig T.sig
    pub sort_names : PlainNames T.sig
    pub some_equation : 1 ≤ length T.equations
    pub few_equations : length T.equations ≤ max_equations
    pub equations : Every PlainEquation T.equations
    pub start : T.start.0 < length T.equations
    pub values : Every (λ v. v ≤ max_numeral) T.start.1

-- A RIGHT TABLE IS PLAIN

module _ (S : Sig) (ok : RightSig S) (Γ : List ℕ) where
  some_takes : (f : ℕ) → f < length S.funcs → 1 ≤ length (func S f).takes
  unfolding RightSig RightFunc func
  some_takes f h = (every_at (RightFunc S.sorts) S.funcs no_func f ok.1.0.1 h).0.0.0

  own_sort : (D : ℕ) (d : Data) → HasSort S (get_elem? Γ) d D → OwnSort S Γ D d
  unfolding OwnSort HasSort
  own_sort D (val v) h = tt
  own_sort D (var i) h = h
  own_sort D (app f ds) h = h.1.0

  own_sorts : (D : ℕ) (ds : Datas) (Ds : List ℕ) → Every (λ E. E ≡ D) Ds → HaveSorts S (get_elem? Γ) ds Ds → Every (OwnSort S Γ D) (list_of ds)
  unfolding HasSort list_of Every
  own_sorts D nil Ds e h = tt
  own_sorts D (cons d ds) [] e h = absurd h
  own_sorts D (cons d ds) (E ∷ Ds) e h = (own_sort D d (subst (HasSort S (get_elem? Γ) d) e.0 h.0), own_sorts D ds Ds e.1 h.1)

  plain_use : (o : Operation) (ds : Datas) → IsOperation S o → HaveSorts S (get_elem? Γ) ds (function S o).takes → PlainUse S Γ o (list_of ds)
  unfolding IsOperation PlainUse function Every
  plain_use (Operation.written f) ds h k =
      let a = some_takes f h in
      let b = have_sorts_many S (get_elem? Γ) ds (func S f).takes k in
      (h, omega arith)
  plain_use Operation.not ds h k = have_sorts_many S (get_elem? Γ) ds (0 ∷ []) k
  plain_use Operation.and ds h k = have_sorts_many S (get_elem? Γ) ds (0 ∷ 0 ∷ []) k
  plain_use Operation.or ds h k = have_sorts_many S (get_elem? Γ) ds (0 ∷ 0 ∷ []) k
  plain_use (Operation.equal D) ds h k = (have_sorts_many S (get_elem? Γ) ds (D ∷ D ∷ []) k, own_sorts D ds (D ∷ D ∷ []) (refl, (refl, tt)) k)
  plain_use Operation.unsorted ds h k = h

  mutual
    unfolding Plain HasSort size RightSig function_at

    pub plain_data : (d : Data) (D : ℕ) → HasSort S (get_elem? Γ) d D → Plain S Γ d
    plain_data (val v) D h = omega (arith, small_size S.sorts D ok.0)
    plain_data (var i) D h = below_some Γ i D h
    plain_data (app f ds) D h = (plain_use (operation f) ds h.0 h.1.1, plain_datas ds (function_at S f).takes h.1.1)

    plain_datas : (ds : Datas) (Ds : List ℕ) → HaveSorts S (get_elem? Γ) ds Ds → PlainAll S Γ ds
    plain_datas nil Ds h = tt
    plain_datas (cons d ds) [] h = absurd h
    plain_datas (cons d ds) (D ∷ Ds) h = (plain_data d D h.0, plain_datas ds Ds h.1)

  plain_terms : (Ds : List ℕ) (ds : List Data) → Each (RightTerm S Γ) Ds ds → Every (Plain S Γ) ds
  plain_terms Ds ds h = each_every _ (λ D. Unit {0}) _ (λ D d k u. plain_data d D k.0) Ds ds h (every_of_all _ (λ D. tt) Ds)

-- two views of one list that correspond do so at each element
pub every_of_each : {A B C : Type 0} (R : B → C → Type 0) (f : A → B) (g : A → C) (l : List A) → Each R (map f l) (map g l) → Every (λ a. R (f a) (g a)) l
unfolding Every Each
every_of_each R f g [] h = tt
every_of_each R f g (a ∷ l) h = (h.0, every_of_each R f g l h.1)

module _ (T : Table) (right : RightTable T) where
  abbrev S : Sig
  S = T.sig

  sig_right : RightSig S
  unfolding RightTable
  sig_right = right.0.0

  sizes_right : RightSizes S.sorts
  unfolding RightSig
  sizes_right = sig_right.0

  count : length (params_of T.equations) ≡ length T.equations
  unfolding params_of
  count = length-map T.equations (λ (q : Equation). q.params)

  plain_act : (a : Act) (ds : List Data) (Γ : List ℕ) → IsAct S a → Each (RightTerm S Γ) (takes_of S a) ds → PlainAct S a ds
  unfolding PlainAct IsAct takes_of Each
  plain_act tau [] Γ h k = refl
  plain_act tau (d ∷ ds) Γ h k = absurd k
  plain_act (action a) ds Γ h k = h

  plain_summand : (Δ : List ℕ) (h : Summand) → length Δ ≤ frame_width → RightSummand S (params_of T.equations) Δ h → PlainSummand T Δ h
  unfolding RightSummand RightSorts RightCond RightCall
  plain_summand Δ h few r =
      let Γ = Δ ++ h.vars in
      let n = length-append Δ h.vars in
      let l : length h.vars ≤ max_variables = r.0.0 in
      let k = count in
      record {
        few = omega arith;
        vars = r.0.1;
        conds = every_weaken _ _ (λ c x. (x.0, plain_data S sig_right Γ c.1 Bool_sort x.1.0)) h.conds r.1.0.1;
        act = plain_act h.act h.terms Γ r.1.1.0 r.1.1.1.0;
        terms = plain_terms S sig_right Γ (takes_of S h.act) h.terms r.1.1.1.0;
        calls = every_weaken _ _ (λ c x. (omega arith, plain_terms S sig_right Γ (get_or (params_of T.equations) c.0 []) c.1 x.1)) h.calls r.1.1.1.1.1;
      }

  plain_equations : Every (PlainEquation T) T.equations
  unfolding RightTable RightEquations RightSorts RightSummands params_of summands_of
  plain_equations =
      let r = right.0.1.0 in
      every_both _ _ _
      (λ q s h. record { few = s.0; params = s.1; summands = every_weaken _ _ (λ x. plain_summand q.params x s.0) q.summands h.1 }) T.equations
      (map_every (λ (q : Equation). RightSorts S frame_width q.params) (RightSorts S frame_width) (λ (q : Equation). q.params) (λ q h. h) T.equations r.0.1)
      (every_of_each (RightSummands S (params_of T.equations)) (λ (q : Equation). q.params) (λ (q : Equation). q.summands) T.equations r.1)

  -- A RIGHT TABLE IS PLAIN.
  pub right_plain : PlainTable T
  unfolding RightTable RightEquations RightStart size
  right_plain =
      let r = right.0.1 in
      let k = count in
      let few = r.0.0.0 in
      record {
        signature = sig_right;
        sort_names = right_names T.layout S sig_right right.2;
        some_equation = omega arith;
        few_equations = omega arith;
        equations = plain_equations;
        start = r.1.0;
        values = each_every _ (λ D. Unit {0}) _ (λ D v w u. omega (arith, small_size S.sorts D (sizes_right))) (get_or (params_of T.equations) T.start.0 []) T.start.1 r.1.1 (every_of_all _ (λ D. tt) _);
      }
