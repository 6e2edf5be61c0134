-- The linear sheet of a right table is rightly sorted.
use Rattle.std.specs.Prelude.{◌≡◌, length}
use Rattle.std.proofs.Math.Path.{refl, ap, subst}
use Rattle.std.proofs.Common.{sym, ◌∙◌}
use mathlib.Core.List.{List, [], ◌∷◌, ◌++◌, append-nil, append_assoc, map}
use Prim.Native.Nat.{ℕ, zero, suc, ◌<◌}
use native.Mathlib.Omega.{arith}
use Rattle.std.proofs.Math.ListN.{get_or, get_elem?, length-map, get_or-map}
use Rattle.pcrl.specs.Tests.{Every, Each}
use Rattle.pcrl.specs.Sheet.{Data, val, Proc, atom, Process, no_process, Sheet, size, takes_of, params}
use Rattle.pcrl.specs.Sorts.{Scope, binding, closed, Bool_sort, HasSort, Sorted, Complete, RightlySorted, Arguments}
use Rattle.pcrl.specs.Table.{Summand, Equation, Table, params_of, summands_of}
use Rattle.pcrl.specs.Right.{RightFunc, RightSig, RightSorts, RightTerm, RightCond, RightCall, RightSummand, RightSummands, RightEquations, RightStart, RightTable}
use Rattle.laws.specs.Lists.{length_snoc, map_twice}
use Rattle.laws.specs.Every.{every_weaken, every_map}
use Rattle.laws.specs.Each.{each_flip}
use Rattle.theory.specs.Scopes.{binding_next}
use Rattle.printing.specs.Plain.{every_of_each}
use Rattle.printing.specs.Linear.{calls_behind, wants, conditions, sums, linear_summand, alternatives, linear_right, linear_process, linear_sheet}

module _ (U : Table) where
  abbrev H : Sheet
  H = linear_sheet U

  -- the parameters of a process are those of its equation
  params_linear : (k : ℕ) → get_or (params_of U.equations) k [] ≡ params H k
  unfolding params params_of linear_sheet linear_process
  params_linear k =
      ap (λ (l : List (List ℕ)). get_or l k []) (sym (map_twice (λ (p : Process). p.params) linear_process (λ (q : Equation). q.params) (λ q. refl) U.equations))
      ∙ get_or-map (λ (p : Process). p.params) (map linear_process U.equations) k no_process

  -- TERMS

  arguments_sorted : (Γ Ds : List ℕ) (ds : List Data) → Each (RightTerm U.sig Γ) Ds ds → Arguments U.sig (get_elem? Γ) ds Ds
  arguments_sorted Γ Ds ds h = each_flip (RightTerm U.sig Γ) _ (λ D d k. k.0) Ds ds h

  call_sorted : (Γ : List ℕ) (c : ℕ × List Data) → RightCall U.sig (params_of U.equations) Γ c → Sorted H (get_elem? Γ) (Proc.call c.0 c.1)
  unfolding RightCall Sorted linear_sheet params_of
  call_sorted Γ c h =
      let n = length-map U.equations (λ (q : Equation). q.params) in
      let m = length-map U.equations linear_process in
      let w = h.0 in
      (omega arith, subst (Arguments U.sig (get_elem? Γ) c.1) (params_linear c.0) (arguments_sorted Γ (get_or (params_of U.equations) c.0 []) c.1 h.1))

  calls_sorted : (Γ : List ℕ) (p : Proc) (cs : List (ℕ × List Data)) → Sorted H (get_elem? Γ) p → Every (RightCall U.sig (params_of U.equations) Γ) cs → Sorted H (get_elem? Γ) (calls_behind p cs)
  unfolding Sorted calls_behind Every
  calls_sorted Γ p [] h k = h
  calls_sorted Γ p (c ∷ cs) h k = (h, calls_sorted Γ (Proc.call c.0 c.1) cs (call_sorted Γ c k.0) k.1)

  wants_sorted : (Γ : List ℕ) (w : ℕ) (d : Data) (p : Proc) → HasSort U.sig (get_elem? Γ) d Bool_sort → Sorted H (get_elem? Γ) p → Sorted H (get_elem? Γ) (wants w d p)
  unfolding wants Sorted linear_sheet
  wants_sorted Γ zero d p h k = (h, (tt, k))
  wants_sorted Γ (suc w) d p h k = (h, (k, tt))

  conditions_sorted : (Γ : List ℕ) (cs : List (ℕ × Data)) (p : Proc) → Every (RightCond U.sig Γ) cs → Sorted H (get_elem? Γ) p → Sorted H (get_elem? Γ) (conditions cs p)
  unfolding Every conditions RightCond
  conditions_sorted Γ [] p h k = k
  conditions_sorted Γ (c ∷ cs) p h k = wants_sorted Γ c.0 c.1 (conditions cs p) h.0.1.0 (conditions_sorted Γ cs p h.1 k)

  sums_sorted : (Δ : List ℕ) (n : ℕ) (Ds : List ℕ) (p : Proc) → length Δ ≡ n → Every (λ D. D < length U.sig.sorts) Ds → Sorted H (get_elem? (Δ ++ Ds)) p → Sorted H (get_elem? Δ) (sums n Ds p)
  unfolding Sorted sums Every linear_sheet
  sums_sorted Δ n [] p e h k = subst (λ (Γ : List ℕ). Sorted H (get_elem? Γ) p) (append-nil Δ) k
  sums_sorted Δ n (D ∷ Ds) p e h k =
      let more = sums_sorted (Δ ++ (D ∷ [])) (suc n) Ds p (length_snoc Δ D ∙ ap suc e) h.1 (subst (λ (Γ : List ℕ). Sorted H (get_elem? Γ) p) (sym (append_assoc Δ (D ∷ []) Ds)) k) in
      (h.0, subst (λ (x : ℕ). Sorted H (binding x D (get_elem? Δ)) (sums (suc n) Ds p)) e (subst (λ (Γ : Scope). Sorted H Γ (sums (suc n) Ds p)) (sym (binding_next Δ D)) more))

  summand_sorted : (Δ : List ℕ) (h : Summand) → RightSummand U.sig (params_of U.equations) Δ h → Sorted H (get_elem? Δ) (linear_summand (length Δ) h)
  unfolding RightSummand RightSorts linear_summand Sorted linear_sheet
  summand_sorted Δ h r =
      let Γ = Δ ++ h.vars in
      sums_sorted Δ (length Δ) h.vars _ refl r.0.1
      (conditions_sorted Γ h.conds _ r.1.0.1
      (calls_sorted Γ (atom h.act h.terms) h.calls (r.1.1.0, arguments_sorted Γ (takes_of U.sig h.act) h.terms r.1.1.1.0) r.1.1.1.1.1))

  -- RIGHT SIDES

  joined_sorted : (Γ : Scope) (p : Proc) (ps : List Proc) → Sorted H Γ p → Every (Sorted H Γ) ps → Sorted H Γ (alternatives p ps)
  unfolding alternatives Every Sorted
  joined_sorted Γ p [] h k = h
  joined_sorted Γ p (q ∷ ps) h k = (h, joined_sorted Γ q ps k.0 k.1)

  right_sorted : (Γ : Scope) (ps : List Proc) → Every (Sorted H Γ) ps → Sorted H Γ (linear_right ps)
  unfolding linear_right Every Sorted
  right_sorted Γ [] h = tt
  right_sorted Γ (p ∷ ps) h = joined_sorted Γ p ps h.0 h.1

  process_sorted : (q : Equation) → RightSummands U.sig (params_of U.equations) q.params q.summands → Sorted H (get_elem? q.params) (linear_process q).right
  unfolding RightSummands linear_process
  process_sorted q h = right_sorted (get_elem? q.params) _ (every_map _ _ (linear_summand (length q.params)) (summand_sorted q.params) q.summands h.1)

  -- INIT

  values_sorted : (Ds vs : List ℕ) → Each (λ (D v : ℕ). v < size U.sig D) Ds vs → Arguments U.sig closed (map val vs) Ds
  unfolding Each HasSort
  values_sorted [] [] h = tt
  values_sorted [] (v ∷ vs) h = absurd h
  values_sorted (D ∷ Ds) [] h = absurd h
  values_sorted (D ∷ Ds) (v ∷ vs) h = (h.0, values_sorted Ds vs h.1)

  -- THE LINEAR SHEET OF A RIGHT TABLE IS RIGHTLY SORTED.
  pub linear_sorted : RightTable U → RightlySorted H
  unfolding RightTable RightSig RightEquations RightStart RightlySorted RightFunc Complete Sorted linear_sheet linear_process params_of summands_of size
  linear_sorted right =
      let r = right.0.1 in
      let m = length-map U.equations linear_process in
      let w = r.1.0 in (
        every_weaken (RightFunc U.sig.sorts) (Complete U.sig) (λ g f. f.1.1) U.sig.funcs right.0.0.1.0.1,
        (
          every_map (λ (q : Equation). RightSummands U.sig (params_of U.equations) q.params q.summands) _ linear_process process_sorted U.equations
              (every_of_each (RightSummands U.sig (params_of U.equations)) (λ (q : Equation). q.params) (λ (q : Equation). q.summands) U.equations r.0.1),
          (omega arith, subst (Arguments U.sig closed (map val U.start.1)) (params_linear U.start.0) (values_sorted (get_or (params_of U.equations) U.start.0 []) U.start.1 r.1.1)),
        ),
      )
