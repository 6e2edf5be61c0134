-- Equality to n steps and runs, over any two transition systems with the same labels.
use Rattle.std.specs.Prelude.{List, [], ◌∷◌, ◌↔◌, ℕ, zero, suc}

-- a labelled transition system in which some states have ended
pub record System (L : Type 0) : Type 1 where
  pub State : Type 0
  pub Ended : State → Type 0
  pub Step : State → L → State → Type 0

module _ {L : Type 0} where
  -- "Two states are equal to 0 steps if both or neither ended. They are equal to n + 1 steps if that holds and each step of either
  -- is matched by a step of the other with the same label to states equal to n steps."
  unfoldable pub Equal : (A B : System L) → ℕ → A.State → B.State → Type 0
  Equal A B zero s t = A.Ended s ↔ B.Ended t
  Equal A B (suc n) s t =
      (A.Ended s ↔ B.Ended t)
      × ((l : L) (s' : A.State) → A.Step s l s' → (t' : B.State) × B.Step t l t' × Equal A B n s' t')
      × ((l : L) (t' : B.State) → B.Step t l t' → (s' : A.State) × A.Step s l s' × Equal A B n s' t')

  -- "A run with a list of labels is steps, one after another, that bear them in order; with no labels it stays where it began."
  pub data Run (A : System L) : A.State → List L → A.State → Type 0 where
    stay : {s : A.State} → Run A s [] s
    go : {s : A.State} {l : L} {s' : A.State} {ls : List L} {t : A.State} → A.Step s l s' → Run A s' ls t → Run A s (l ∷ ls) t
