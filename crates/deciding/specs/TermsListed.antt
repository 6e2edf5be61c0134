-- The steps of closed terms as a list: it is exactly `TermStep` where the sheet passes question 9.
use Rattle.std.specs.Prelude.{List, [], ◌∷◌, ◌++◌, map}
use Rattle.std.proofs.Math.Option.{Option, none}
use Prim.Native.Nat.{ℕ, zero, suc}
use Rattle.std.proofs.Math.Decide.{ℕ_discrete}
use Rattle.std.proofs.Math.ListN.{length, get_elem?}
use Rattle.pcrl.specs.Reader.{all}
use Rattle.pcrl.specs.Lists.{tabulate}
use Rattle.pcrl.specs.Sheet.{Data, Proc, delta, atom, alt, cond, sum, seq, call, Sheet, size, right}
use Rattle.pcrl.specs.Label.{Label, label}
use Rattle.pcrl.specs.Values.{eval, put_data, put}
use Rattle.pcrl.specs.Terms.{Rest, done}
use Rattle.theory.specs.TermSteps.{before}
use Rattle.deciding.specs.Valued.{valued, with_value}

-- a list where the test passes, and else none
unfoldable pub where_met : {P A : Type 0} → Dec P → (P → List A) → List A
where_met (yes h) f = f h
where_met (no h) f = []

abbrev pub Values : Type 0
Values = ℕ → Option ℕ

module _ (H : Sheet) where
  -- what data are worth where the variables have these values
  abbrev pub worth : Values → Data → ℕ
  worth e d = eval H.sig [] (put_data (valued e) d)

  abbrev pub all_worth : Values → List Data → List ℕ
  all_worth e ds = map (eval H.sig []) (map (put_data (valued e)) ds)

  -- a step of what stands before q
  abbrev pub then : Proc → Values → Label × Rest → Label × Rest
  then q e x = (x.0, before (put (valued e) q) x.1)

  -- The steps of a term with values e put for its variables, where `known k vs` are those of a call of the process k with the values vs.
  module _ (known : ℕ → List ℕ → List (Label × Rest)) where
    unfoldable pub steps_by : Values → Proc → List (Label × Rest)
    steps_by e delta = []
    steps_by e (atom a ds) = (label H.sig a (all_worth e ds), done) ∷ []
    steps_by e (alt p q) = steps_by e p ++ steps_by e q
    steps_by e (cond c p q) = where_met (ℕ_discrete (worth e c) 1) (λ h. steps_by e p) ++ where_met (ℕ_discrete (worth e c) 0) (λ h. steps_by e q)
    steps_by e (sum x D p) = all (λ v. steps_by (with_value x v e) p) (tabulate (size H.sig D) (λ v. v))
    steps_by e (seq p q) = map (then q e) (steps_by e p)
    steps_by e (call k ds) = known k (all_worth e ds)

  -- the steps of a call, where n calls, each at the head of the one before, are followed
  unfoldable pub call_steps : ℕ → ℕ → List ℕ → List (Label × Rest)
  call_steps zero k vs = []
  call_steps (suc n) k vs = steps_by (call_steps n) (get_elem? vs) (right H k)

  unfoldable pub term_steps : Proc → List (Label × Rest)
  term_steps p = steps_by (call_steps (length H.procs)) (λ i. none) p
  -- EACH LISTED ONE IS A STEP
