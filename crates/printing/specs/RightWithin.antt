-- A right table is within the limits of question 10.
use Rattle.std.specs.Prelude.{List, [], ◌++◌, ℕ, get_or}
use Rattle.pcrl.specs.Limits.{frame_width}
use Rattle.pcrl.specs.Tests.{Every, Each}
use Rattle.pcrl.specs.Sheet.{Data, Sig, takes_of}
use Rattle.pcrl.specs.Table.{Summand, Equation, Table, params_of, summands_of}
use Rattle.pcrl.specs.Right.{Small, SummandWithin, EquationWithin, Within, RightSorts, RightTerm, RightCond, RightCall, RightSummand, RightSummands, RightEquations, RightTable}
use Rattle.laws.specs.Every.{every_weaken, every_both, every_of_all, map_every}
use Rattle.laws.specs.Each.{each_every}
use Rattle.codec.proofs.StreamBytes.{few_equations}
use Rattle.printing.specs.Plain.{every_of_each}

terms_small : (S : Sig) (Γ Ds : List ℕ) (ds : List Data) → Each (RightTerm S Γ) Ds ds → Every Small ds
terms_small S Γ Ds ds h = each_every _ (λ D. Unit {0}) Small (λ D d k u. k.1) Ds ds h (every_of_all _ (λ D. tt) Ds)

summand_within : (S : Sig) (Ps : List (List ℕ)) (Δ : List ℕ) (h : Summand) → RightSummand S Ps Δ h → SummandWithin h
unfolding RightSummand RightSorts RightCond RightCall SummandWithin
summand_within S Ps Δ h r = (
  r.0.0,
  (
    r.1.0.0,
    (
      r.1.1.1.1.0,
      (
        every_weaken _ _ (λ c k. k.1.1) h.conds r.1.0.1,
        (
          terms_small S (Δ ++ h.vars) (takes_of S h.act) h.terms r.1.1.1.0,
          every_weaken _ _ (λ c k. terms_small S (Δ ++ h.vars) (get_or Ps c.0 []) c.1 k.1) h.calls r.1.1.1.1.1,
        ),
      ),
    ),
  ),
)

-- A RIGHT TABLE IS WITHIN ITS LIMITS.
pub right_within : (T : Table) → RightTable T → Within T
unfolding RightTable RightEquations RightSummands RightSorts EquationWithin Within params_of summands_of
right_within T right =
    let S = T.sig in
    let r = right.0.1.0 in (
      few_equations S T.equations r,
      (
        right.1.0,
        (
          every_both _ _ EquationWithin (λ q s h. (s.0, every_weaken _ _ (summand_within S (params_of T.equations) q.params) q.summands h.1)) T.equations
              (map_every (λ (q : Equation). RightSorts S frame_width q.params) (RightSorts S frame_width) (λ (q : Equation). q.params) (λ q h. h) T.equations r.0.1)
              (every_of_each (RightSummands S (params_of T.equations)) (λ (q : Equation). q.params) (λ (q : Equation). q.summands) T.equations r.1),
          right.1.1,
        ),
      ),
    )
