-- The table of a sheet in good standing is right, where it is within its limits.
use Rattle.std.specs.Prelude.{ℕ, ◌≤◌}
use mathlib.Core.List.{List, [], ◌∷◌}
use native.Mathlib.Omega.{arith}
use Rattle.std.proofs.Math.ListN.{length}
use Rattle.pcrl.specs.Limits.{frame_width, max_equations, max_summands}
use Rattle.pcrl.specs.Tests.{Every, Each}
use Rattle.pcrl.specs.Sheet.{Sheet, takes_of, params}
use Rattle.pcrl.specs.Sorts.{Sorted}
use Rattle.pcrl.specs.Table.{Summand, Equation, Table, no_equation, equation, params_of, summands_of, summand_count}
use Rattle.pcrl.specs.Heads.{table_of}
use Rattle.pcrl.specs.Stack.{InSorts}
use Rattle.pcrl.specs.Right.{Small, SummandWithin, EquationWithin, Within, RightSig, RightSorts, RightCond, RightCall, RightSummand, RightSummands, RightEquations, RightStart, RightTable}
use Rattle.laws.specs.Every.{at_every, every_weaken, every_both, every_map}
use Rattle.laws.specs.Each.{each_of_every, each_turned}
use Rattle.theory.specs.Standing.{Standing}
use Rattle.theory.specs.ValueSorts.{values_in}
use Rattle.theory.proofs.TableSorts.{SortedSummand}
use Rattle.theory.specs.Equations.{equation_count}
use Rattle.theory.proofs.SortedTable.{process_equation, SortedEquation, equation_sorted}
use Rattle.theory.specs.TableRight.{params_length, params_at}

module _ (T : Table) where
  -- RIGHT SUMMANDS

  -- a rightly sorted summand within its limits is a right one
  pub summand_right : (Δ : List ℕ) (h : Summand) → SortedSummand T.sig (length T.equations) (λ e. (equation T e).params) Δ h → SummandWithin h
      → RightSummand T.sig (params_of T.equations) Δ h
  unfolding SummandWithin RightSummand RightSorts RightCond RightCall
  summand_right Δ h s w =
      let l = params_length T in (
        (w.0, s.vars),
        (
          (w.1.0, every_both _ _ _ (λ c a b. (a.0, (a.1, b))) h.conds s.conds w.1.1.1.0),
          (
            s.act,
            (
              each_turned _ Small h.terms (takes_of T.sig h.act) s.terms w.1.1.1.1.0,
              (
                w.1.1.0,
                every_both _ _ _ (λ c a b. (omega arith, rw (params_at T c.0) (each_turned _ Small c.1 (equation T c.0).params a.1 b))) h.calls s.calls w.1.1.1.1.1,
              ),
            ),
          ),
        ),
      )

-- no equation has more summands than there are in all
pub summands_few : (es : List Equation) (n : ℕ) → summand_count es ≤ n → Every (λ (x : Equation). length x.summands ≤ n) es
unfolding summand_count Every
summands_few [] n h = tt
summands_few (x ∷ es) n h = (omega arith, summands_few es n (omega arith))

module _ (H : Sheet) (ok : Standing H) (within : Within (table_of H)) where
  abbrev T : Table
  T = table_of H

  all_sorted : Every (SortedEquation H) T.equations
  unfolding equation
  all_sorted = at_every (SortedEquation H) T.equations no_equation (equation_sorted H ok)

  RightEquation : Equation → Type 0
  RightEquation x = RightSorts T.sig frame_width x.params × RightSummands T.sig (params_of T.equations) x.params x.summands

  equations_right : Every RightEquation T.equations
  unfolding RightEquation RightSorts RightSummands Within EquationWithin table_of
  equations_right =
      every_both (λ x. SortedEquation H x × EquationWithin x) (λ x. length x.summands ≤ max_summands) RightEquation
      (λ x k few. ((k.1.0, k.0.sorts), (few, every_both _ _ _ (λ h s w. summand_right T x.params h s w) x.summands k.0.summands k.1.1))) T.equations
      (every_both _ _ _ (λ x s w. (s, w)) T.equations all_sorted within.1.1.0) (summands_few T.equations max_summands within.1.0)

  -- "start equation, its data evaluated"
  start_right : RightStart T.sig T.equations T.start
  unfolding RightStart table_of Sorted RightSig InSorts Each
  start_right =
      let k = H.start.0 in
      let (i, e) = process_equation H k ok.start.0 in
      (i, rw (params_at T k, e) (values_in H.sig ok.signature.0 ok.signature.1.0.1 [] [] tt H.start.1 (params H k) ok.start.1))

  all_right : RightTable T
  unfolding RightTable RightEquations RightEquation Within table_of params_of summands_of
  all_right =
      let l = params_length T in
      let n = equation_count H in
      let one = ok.some_process in
      let few : length T.equations ≤ max_equations = within.0 in (
        (
          ok.signature,
          (
            (
              ((omega arith, omega arith), every_map RightEquation _ (λ (e : Equation). e.params) (λ x h. h.0) T.equations equations_right),
              each_of_every (RightSummands T.sig (params_of T.equations)) (λ (e : Equation). e.params) (λ (e : Equation). e.summands) T.equations (every_weaken RightEquation _ (λ x h. h.1) T.equations equations_right),
            ),
            start_right,
          ),
        ),
        (within.1.0, within.1.1.1),
        ok.sort_names,
      )

-- THE TABLE OF A SHEET IN GOOD STANDING, WHERE IT IS WITHIN ITS LIMITS, IS RIGHT.
pub table_right : (H : Sheet) → Standing H → Within (table_of H) → RightTable (table_of H)
table_right H ok within = all_right H ok within
