-- The listed steps of a stack are its steps, all of them: `Any` through the lists of summands and of values that `steps` goes through.
use Rattle.std.proofs.Math.Path.{◌≡◌, sym, subst}
use Rattle.std.proofs.Common.{ap, arith}
use mathlib.Core.List.{List, [], ◌∷◌, ◌++◌, map}
use Rattle.std.proofs.Math.Option.{some}
use Rattle.std.specs.Prelude.{ℕ}
use Rattle.std.proofs.Math.ListN.{get_elem?}
use Rattle.pcrl.specs.Tests.{Each}
use Rattle.pcrl.specs.Reader.{all}
use Rattle.pcrl.specs.Lists.{tabulate}
use Rattle.pcrl.specs.Sheet.{Sig, size}
use Rattle.pcrl.specs.Label.{Label}
use Rattle.pcrl.specs.Table.{Summand, Table, equation}
use Rattle.pcrl.specs.Stack.{Frame, Stack, InSorts, used}
use Rattle.pcrl.specs.Steps.{Any, here, meets?, values_of, if_met, outcome, Fires, StackStep, fired, steps}
use Rattle.laws.specs.Any.{any_to, any_map, any_of_map, any_one, any_none, In, any_all, any_of_all, any_tabulate, any_of_tabulate, place_in, in_place, any_found}

-- an element that is kept where the test passes
pub any_of_if_met : {X A : Type 0} {P : A → Type 0} (d : Dec X) (a : A) → Any P (if_met d a) → X × P a
unfolding if_met
any_of_if_met (yes x) a h = (x, any_one h)
any_of_if_met (no n) a h = absurd (any_none h)

pub any_if_met : {X A : Type 0} {P : A → Type 0} (d : Dec X) (a : A) → X → P a → Any P (if_met d a)
unfolding if_met
any_if_met (yes x) a h p = here p
any_if_met (no n) a h p = absurd (n h)

module _ (S : Sig) where
  -- the listed values are those in the sorts
  pub any_of_values : {P : List ℕ → Type 0} (Ds : List ℕ) → Any P (values_of S Ds) → (vs : List ℕ) × InSorts S Ds vs × P vs
  unfolding values_of InSorts Each
  any_of_values [] h = ([], tt, any_one h)
  any_of_values {P} (D ∷ Ds) h =
      let (v, i, g) = any_of_tabulate (size S D) (λ v. v) (any_of_all (λ v. map (λ vs. v ∷ vs) (values_of S Ds)) (tabulate (size S D) (λ v. v)) h) in
      let (vs, j, q) = any_of_values {P = λ us. P (v ∷ us)} Ds (any_of_map {P = P} (λ vs. v ∷ vs) (values_of S Ds) g) in
      (v ∷ vs, (i, j), q)

  pub any_values : {P : List ℕ → Type 0} (Ds vs : List ℕ) → InSorts S Ds vs → P vs → Any P (values_of S Ds)
  unfolding values_of InSorts Each
  any_values [] [] i q = here q
  any_values [] (v ∷ vs) i q = absurd i
  any_values (D ∷ Ds) [] i q = absurd i
  any_values {P} (D ∷ Ds) (v ∷ vs) i q =
      any_all (λ v. map (λ vs. v ∷ vs) (values_of S Ds)) (any_tabulate (size S D) (λ v. v) v i.0 (any_map {P = P} (λ vs. v ∷ vs) (any_values Ds vs i.1 q)))

module _ (width : ℕ) where
  module _ (S : Sig) (vs : List ℕ) where
    fired_fires : (h : Summand) (l : Label) (fs : List Frame) → In (l, fs) (fired width S vs h) → Fires width S vs l fs h
    unfolding fired
    fired_fires h l fs a =
        let (ws, i, g) = any_of_values S h.vars (any_of_all _ (values_of S h.vars) a) in
        let (m, e) = any_of_if_met (meets? S (vs ++ ws) h.conds) (outcome width S (vs ++ ws) h) g in
        record { values = ws; in_sorts = i; meets = m; gives = sym e }

    fires_fired : (h : Summand) (l : Label) (fs : List Frame) → Fires width S vs l fs h → In (l, fs) (fired width S vs h)
    unfolding fired
    fires_fired h l fs r =
        any_all _ (any_values S h.vars r.values r.in_sorts
        (any_if_met (meets? S (vs ++ r.values) h.conds) (outcome width S (vs ++ r.values) h) r.meets (sym r.gives)))

  module _ (T : Table) where
    -- What stands at a place of the list is a step.
    pub listed_steps : (s : Stack) (k : ℕ) (l : Label) (t : Stack) → get_elem? (steps width T s) k ≡ some (l, t) → StackStep width T s l t
    unfolding steps StackStep
    listed_steps [] k l t e = absurd (let z : ◌≡◌ {A = ℕ} 0 1 = cc in omega arith)
    listed_steps (f ∷ s) k l t e =
        let hs = (equation T f.number).summands in
        let (x, a, g) = any_found (any_of_map _ (all (fired width T.sig (used T f)) hs) (place_in _ k (l, t) e)) in
        let b = subst (λ (m : Label). In (m, x.1) (all (fired width T.sig (used T f)) hs)) (ap (λ (y : Label × Stack). y.0) g) a in
        (x.1, any_to (λ h. fired_fires T.sig (used T f) h l x.1) (any_of_all _ hs b), sym (ap (λ (y : Label × Stack). y.1) g))

    -- Every step stands at some place of the list.
    pub steps_listed : (s : Stack) (l : Label) (t : Stack) → StackStep width T s l t → (k : ℕ) × (get_elem? (steps width T s) k ≡ some (l, t))
    unfolding steps StackStep
    steps_listed [] l t h = absurd h
    steps_listed (f ∷ s) l t h =
        in_place (any_map _ (any_to (λ x e. cc (e, h.2))
        (any_all (fired width T.sig (used T f)) (any_to (λ d. fires_fired T.sig (used T f) d l h.0) h.1))))
