-- The steps of stacks: as a relation, and as the list in its order.
use Rattle.std.specs.Prelude.{◌≡◌, List, [], ◌∷◌, ◌++◌, map, ℕ}
use Rattle.std.proofs.Math.Decide.{ℕ_discrete}
use Rattle.pcrl.specs.Tests.{Every, every?}
use Rattle.pcrl.specs.Reader.{all}
use Rattle.pcrl.specs.Sheet.{Data, Sig, size}
use Rattle.pcrl.specs.Label.{Label, label}
use Rattle.pcrl.specs.Values.{eval}
use Rattle.pcrl.specs.Lists.{tabulate}
use Rattle.pcrl.specs.Table.{Summand, Table, equation}
use Rattle.pcrl.specs.Stack.{Frame, Stack, InSorts, used, padded}

-- P holds of some element
pub data Any {A : Type 0} (P : A → Type 0) : List A → Type 0 where
  here : {x : A} {xs : List A} → P x → Any P (x ∷ xs)
  there : {x : A} {xs : List A} → Any P xs → Any P (x ∷ xs)

-- "values .. that meet its conditions": each term has its wanted value
unfoldable pub Meets : Sig → List ℕ → List (ℕ × Data) → Type 0
Meets S e cs = Every (λ (c : ℕ × Data). eval S e c.1 ≡ c.0) cs

unfoldable pub meets? : (S : Sig) (e : List ℕ) (cs : List (ℕ × Data)) → Dec (Meets S e cs)
unfolding Meets
meets? S e cs = every? (λ (c : ℕ × Data). ℕ_discrete (eval S e c.1) c.0) cs

-- all values of some sorts, "last variable fastest"
unfoldable pub values_of : Sig → List ℕ → List (List ℕ)
values_of S [] = [] ∷ []
values_of S (D ∷ Ds) = all (λ v. map (λ vs. v ∷ vs) (values_of S Ds)) (tabulate (size S D) (λ v. v))

unfoldable pub if_met : {P A : Type 0} → Dec P → A → List A
if_met (yes h) a = a ∷ []
if_met (no h) a = []

module _ (width : ℕ) where
  -- the frame that a call makes, where the variables have the values e
  unfoldable pub call_frame : Sig → List ℕ → ℕ × List Data → Frame
  call_frame S e c = record { number = c.0; values = padded width (map (eval S e) c.1) }

  -- the label of a summand and the frames of its calls, "first call on top"
  unfoldable pub outcome : Sig → List ℕ → Summand → Label × List Frame
  outcome S e h = (label S h.act (map (eval S e) h.terms), map (call_frame S e) h.calls)

  -- The summand h, with parameters worth vs, gives a step with the label l that makes the frames fs.
  pub record Fires (S : Sig) (vs : List ℕ) (l : Label) (fs : List Frame) (h : Summand) : Type 0 where
    pub values : List ℕ
    pub in_sorts : InSorts S h.vars values
    pub meets : Meets S (vs ++ values) h.conds
    pub gives : (l, fs) ≡ outcome S (vs ++ values) h

  -- "A step takes a summand of the top frame's equation and values for its sum variables that meet its conditions.
  -- It replaces the top frame by the calls, first call on top; the depth becomes the old depth − 1 + the number of calls."
  unfoldable pub StackStep : Table → Stack → Label → Stack → Type 0
  StackStep T [] l t = ⊥
  StackStep T (f ∷ s) l t = (fs : List Frame) × Any (Fires T.sig (used T f) l fs) (equation T f.number).summands × (t ≡ fs ++ s)

  -- what a summand gives, listed by the values of its sum variables
  unfoldable pub fired : Sig → List ℕ → Summand → List (Label × List Frame)
  fired S vs h = all (λ ws. if_met (meets? S (vs ++ ws) h.conds) (outcome S (vs ++ ws) h)) (values_of S h.vars)

  -- "Steps are listed by summand, then by values, last variable fastest."
  unfoldable pub steps : Table → Stack → List (Label × Stack)
  steps T [] = []
  steps T (f ∷ s) = map (λ (x : Label × List Frame). (x.0, x.1 ++ s)) (all (fired T.sig (used T f)) (equation T f.number).summands)
