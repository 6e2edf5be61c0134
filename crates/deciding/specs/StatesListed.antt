-- The states of a sheet and a table: closed terms, the ended process and stacks, with their steps as lists.
use Rattle.std.specs.Prelude.{List, [], ◌∷◌, map, ℕ}
use Rattle.pcrl.specs.Sheet.{Sheet}
use Rattle.pcrl.specs.Label.{Label}
use Rattle.pcrl.specs.Table.{Table}
use Rattle.pcrl.specs.Stack.{Stack}
use Rattle.pcrl.specs.Steps.{steps}
use Rattle.pcrl.specs.Terms.{Rest, done, still}
use Rattle.pcrl.specs.States.{State, of_term, of_stack, Ended}
use Rattle.deciding.specs.TermsListed.{term_steps}

unfoldable pub ended? : (s : State) → Dec (Ended s)
unfolding Ended
ended? (of_term done) = yes tt
ended? (of_term (still p)) = no (λ h. h)
ended? (of_stack []) = yes tt
ended? (of_stack (f ∷ s)) = no (λ h. h)

-- a step to a state of either kind
abbrev pub to_term : Label × Rest → Label × State
to_term x = (x.0, of_term x.1)

abbrev pub to_stack : Label × Stack → Label × State
to_stack x = (x.0, of_stack x.1)

module _ (width : ℕ) (H : Sheet) (T : Table) where
  unfoldable pub state_steps : State → List (Label × State)
  state_steps (of_term done) = []
  state_steps (of_term (still p)) = map to_term (term_steps H p)
  state_steps (of_stack s) = map to_stack (steps width T s)
