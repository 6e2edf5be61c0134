-- Where the retold table's sheet is rightly sorted, no `==` of the table stands over two values: such an `==` is retold as no function at all.
use mathlib.Core.List.{List, [], ◌∷◌, map}
use Rattle.std.specs.Prelude.{Bool, T}
use Rattle.std.proofs.Math.Bool.{true, false}
use Prim.Native.Nat.{ℕ, zero, suc}
use Rattle.std.proofs.Math.ListN.{length, get_elem?}
use Rattle.pcrl.specs.Tests.{Every, Each}
use Rattle.pcrl.specs.Sheet.{Data, val, var, app, Datas, nil, cons, Proc, atom, Sig, Process, Sheet, Operation, operation, operator, takes_of, params, function_at}
use Rattle.pcrl.specs.Sorts.{Scope, binding, Bool_sort, IsOperation, IsFunc, HasSort, HaveSorts, Arguments, Sorted, RightlySorted}
use Rattle.pcrl.specs.Table.{Summand, Equation, Table}
use Rattle.laws.specs.Tests.{pass_both}
use Rattle.laws.specs.Every.{map_every}
use Rattle.printing.specs.Linear.{calls_behind, wants, conditions, sums, linear_summand, alternatives, linear_right, linear_process, linear_sheet}
use Rattle.printing.specs.Sided.{all_values, sided_use, sided, all_sided, Sided, told_number, retold, retold_all, retold_cond, retold_call, retold_summand, retold_equation, retold_table, SidedSummand, SidedTable}

-- DATA

module _ (S : Sig) (Γ : Scope) where
  use_sided : (o : Operation) (values : Bool) (f : ℕ) → IsFunc S (told_number o values f) → T (sided_use o values)
  unfolding told_number sided_use IsOperation operation operator
  use_sided (Operation.equal D) true f h = h
  use_sided (Operation.equal D) false f h = tt
  use_sided (Operation.written g) values f h = tt
  use_sided Operation.not values f h = tt
  use_sided Operation.and values f h = tt
  use_sided Operation.or values f h = tt
  use_sided Operation.unsorted values f h = tt

  mutual
    unfolding HasSort sided retold

    data_sided : (d : Data) (D : ℕ) → HasSort S Γ (retold d) D → Sided d
    data_sided (val v) D h = tt
    data_sided (var i) D h = tt
    data_sided (app f ds) D h =
        pass_both (sided_use (operation f) (all_values ds)) (all_sided ds) (use_sided (operation f) (all_values ds) f h.0)
        (datas_sided ds (function_at S (told_number (operation f) (all_values ds) f)).takes h.1.1)

    datas_sided : (ds : Datas) (Ds : List ℕ) → HaveSorts S Γ (retold_all ds) Ds → T (all_sided ds)
    datas_sided nil Ds h = tt
    datas_sided (cons d ds) [] h = absurd h
    datas_sided (cons d ds) (D ∷ Ds) h = pass_both (sided d) (all_sided ds) (data_sided d D h.0) (datas_sided ds Ds h.1)

  terms_sided : (ds : List Data) (Ds : List ℕ) → Arguments S Γ (map retold ds) Ds → Every Sided ds
  unfolding Each Every
  terms_sided [] Ds h = tt
  terms_sided (d ∷ ds) [] h = absurd h
  terms_sided (d ∷ ds) (D ∷ Ds) h = (data_sided d D h.0, terms_sided ds Ds h.1)

-- SUMMANDS

module _ (H : Sheet) where
  calls_sided : (Γ : Scope) (p : Proc) (cs : List (ℕ × List Data)) → Sorted H Γ (calls_behind p (map retold_call cs))
      → Sorted H Γ p × Every (λ (c : ℕ × List Data). Every Sided c.1) cs
  unfolding Sorted calls_behind Every
  calls_sided Γ p [] h = (h, tt)
  calls_sided Γ p (c ∷ cs) h =
      let (k, more) = calls_sided Γ (Proc.call c.0 (map retold c.1)) cs h.1 in
      (h.0, (terms_sided H.sig Γ c.1 (params H c.0) k.1, more))

  wants_sided : (Γ : Scope) (w : ℕ) (d : Data) (p : Proc) → Sorted H Γ (wants w (retold d) p) → Sided d × Sorted H Γ p
  unfolding Sorted wants
  wants_sided Γ zero d p h = (data_sided H.sig Γ d Bool_sort h.0, h.1.1)
  wants_sided Γ (suc w) d p h = (data_sided H.sig Γ d Bool_sort h.0, h.1.0)

  conditions_sided : (Γ : Scope) (cs : List (ℕ × Data)) (p : Proc) → Sorted H Γ (conditions (map retold_cond cs) p)
      → Every (λ (c : ℕ × Data). Sided c.1) cs × Sorted H Γ p
  unfolding conditions Every
  conditions_sided Γ [] p h = (tt, h)
  conditions_sided Γ (c ∷ cs) p h =
      let (first, k) = wants_sided Γ c.0 c.1 (conditions (map retold_cond cs) p) h in
      let (more, l) = conditions_sided Γ cs p k in
      ((first, more), l)

  inside_sums : (Γ : Scope) (n : ℕ) (Ds : List ℕ) (p : Proc) → Sorted H Γ (sums n Ds p) → (Δ : Scope) × Sorted H Δ p
  unfolding Sorted sums
  inside_sums Γ n [] p h = (Γ, h)
  inside_sums Γ n (D ∷ Ds) p h = inside_sums (binding n D Γ) (suc n) Ds p h.1

  summand_sided : (Γ : Scope) (n : ℕ) (h : Summand) → Sorted H Γ (linear_summand n (retold_summand h)) → SidedSummand h
  unfolding linear_summand retold_summand Sorted
  summand_sided Γ n h s =
      let (Δ, inner) = inside_sums Γ n h.vars _ s in
      let (conds, k) = conditions_sided Δ h.conds (calls_behind (atom h.act (map retold h.terms)) (map retold_call h.calls)) inner in
      let (a, calls) = calls_sided Δ (atom h.act (map retold h.terms)) h.calls k in
      record { conds = conds; terms = terms_sided H.sig Δ h.terms (takes_of H.sig h.act) a.1; calls = calls }

  -- RIGHT SIDES

  concatenated_parts : (Γ : Scope) (p : Proc) (ps : List Proc) → Sorted H Γ (alternatives p ps) → Every (Sorted H Γ) (p ∷ ps)
  unfolding alternatives Every Sorted
  concatenated_parts Γ p [] h = (h, tt)
  concatenated_parts Γ p (q ∷ ps) h = (h.0, concatenated_parts Γ q ps h.1)

  right_parts : (Γ : Scope) (ps : List Proc) → Sorted H Γ (linear_right ps) → Every (Sorted H Γ) ps
  unfolding linear_right Every
  right_parts Γ [] h = tt
  right_parts Γ (p ∷ ps) h = concatenated_parts Γ p ps h

  equation_sided : (q : Equation) → Sorted H (get_elem? q.params) (linear_process (retold_equation q)).right → Every SidedSummand q.summands
  unfolding linear_process retold_equation
  equation_sided q h =
      let Γ : Scope = get_elem? q.params in
      let n = length q.params in
      let parts = right_parts Γ (map (linear_summand n) (map retold_summand q.summands)) h in
      map_every SidedSummand (λ k. Sorted H Γ (linear_summand n k)) retold_summand (summand_sided Γ n) q.summands
      (map_every (λ k. Sorted H Γ (linear_summand n k)) (Sorted H Γ) (linear_summand n) (λ k s. s) (map retold_summand q.summands) parts)

-- A RIGHTLY SORTED SHEET HAS NO `==` OVER TWO VALUES.
pub sorted_sided : (U : Table) → RightlySorted (linear_sheet (retold_table U)) → SidedTable U
unfolding RightlySorted linear_sheet retold_table linear_process retold_equation
sorted_sided U s =
    let H = linear_sheet (retold_table U) in
    map_every _ (λ (q : Equation). Sorted H (get_elem? q.params) (linear_process q).right) retold_equation (equation_sided H) U.equations
    (map_every _ (λ (p : Process). Sorted H (get_elem? p.params) p.right) linear_process (λ q h. h) (map retold_equation U.equations) s.1.0)
