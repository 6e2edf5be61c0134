-- Lists by the numbers of their elements, and two lists side by side.
use Rattle.std.specs.Prelude.{List, [], ◌∷◌, map, ℕ, zero, suc}

-- f 0, f 1, ..: n of them
unfoldable pub tabulate : {A : Type 0} → ℕ → (ℕ → A) → List A
tabulate zero f = []
tabulate (suc n) f = f zero ∷ tabulate n (λ i. f (suc i))

-- the elements of two lists in pairs
unfoldable pub together : {A B : Type 0} → List A → List B → List (A × B)
together [] bs = []
together (a ∷ as') [] = []
together (a ∷ as') (b ∷ bs) = (a, b) ∷ together as' bs

-- and each of the two again
module _ {A B : Type 0} where
  abbrev pub firsts : List (A × B) → List A
  firsts l = map (λ (x : A × B). x.0) l

  abbrev pub seconds : List (A × B) → List B
  seconds l = map (λ (x : A × B). x.1) l
