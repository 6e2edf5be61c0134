-- The list of a state's steps is exactly its steps.
use Rattle.std.proofs.Math.Path.{ap, subst}
use Rattle.std.specs.Prelude.{ℕ, T as Holds}
use Rattle.pcrl.specs.Sheet.{Sheet}
use Rattle.pcrl.specs.Label.{Label}
use Rattle.pcrl.specs.Table.{Table}
use Rattle.pcrl.specs.Circles.{guarded}
use Rattle.pcrl.specs.Steps.{steps}
use Rattle.pcrl.specs.Terms.{done, still}
use Rattle.pcrl.specs.States.{State, of_term, of_stack, StateStep, system}
use Rattle.laws.specs.Any.{In, any_to, any_map, any_of_map, any_none, any_found, place_in, in_place}
use Rattle.theory.specs.Listing.{listed_steps, steps_listed}
use Rattle.deciding.specs.Listed.{Listed}
use Rattle.deciding.specs.TermsListed.{term_steps}
use Rattle.deciding.proofs.TermsListed.{listed_term_steps, term_steps_listed}
use Rattle.deciding.specs.StatesListed.{ended?, to_term, to_stack, state_steps}

module _ (width : ℕ) (H : Sheet) (T : Table) where
  pub listed_state_steps : (s : State) (l : Label) (t : State) → In (l, t) (state_steps width H T s) → StateStep width H T s l t
  unfolding state_steps StateStep
  listed_state_steps (of_term done) l t i = absurd (any_none i)
  listed_state_steps (of_term (still p)) l t i =
      let (x, j, e) = any_found (any_of_map to_term (term_steps H p) i) in
      subst (λ (y : Label × State). StateStep width H T (of_term (still p)) y.0 y.1) e (listed_term_steps H p x.0 x.1 j)
  listed_state_steps (of_stack s) l t i =
      let (x, j, e) = any_found (any_of_map to_stack (steps width T s) i) in
      let (k, f) = in_place j in
      subst (λ (y : Label × State). StateStep width H T (of_stack s) y.0 y.1) e (listed_steps width T s k x.0 x.1 f)

  pub state_steps_listed : Holds (guarded H) → (s : State) (l : Label) (t : State) → StateStep width H T s l t → In (l, t) (state_steps width H T s)
  unfolding state_steps StateStep
  state_steps_listed g (of_term done) l t h = absurd h
  state_steps_listed g (of_term (still p)) l (of_term r) h = any_map to_term (any_to (λ x e. ap to_term e) (term_steps_listed H g p l r h))
  state_steps_listed g (of_term (still p)) l (of_stack t) h = absurd h
  state_steps_listed g (of_stack s) l (of_term r) h = absurd h
  state_steps_listed g (of_stack s) l (of_stack t) h =
      let (k, e) = steps_listed width T s l t h in any_map to_stack (any_to (λ x z. ap to_stack z) (place_in (steps width T s) k (l, t) e))

  -- The steps of all states, where the sheet passes question 9.
  abbrev pub states_listed : Holds (guarded H) → Listed (system width H T)
  states_listed g = record { ended? = ended?; successors = state_steps width H T; sound = listed_state_steps; complete = state_steps_listed g }
