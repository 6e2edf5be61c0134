-- Two lists of one length side by side: each is found again, and what holds of the pairs holds of the elements.
use Rattle.std.specs.Prelude.{◌≡◌, suc, length}
use Rattle.std.proofs.Math.Path.{refl, ap}
use mathlib.Core.List.{List, [], ◌∷◌}
use Rattle.std.proofs.Common.{arith}
use Rattle.pcrl.specs.Tests.{Every}
use Rattle.pcrl.specs.Lists.{together, firsts, seconds}

module _ {A B : Type 0} where
  pub firsts_together : (as' : List A) (bs : List B) → length bs ≡ length as' → firsts (together as' bs) ≡ as'
  unfolding together
  firsts_together [] bs e = refl
  firsts_together (a ∷ as') [] e = absurd (omega arith)
  firsts_together (a ∷ as') (b ∷ bs) e = ap (λ (l : List A). a ∷ l) (firsts_together as' bs (omega arith))

  pub seconds_together : (as' : List A) (bs : List B) → length bs ≡ length as' → seconds (together as' bs) ≡ bs
  unfolding together
  seconds_together [] [] e = refl
  seconds_together [] (b ∷ bs) e = absurd (omega arith)
  seconds_together (a ∷ as') [] e = absurd (omega arith)
  seconds_together (a ∷ as') (b ∷ bs) e = ap (λ (l : List B). b ∷ l) (seconds_together as' bs (omega arith))

  pub together_parts : (l : List (A × B)) → together (firsts l) (seconds l) ≡ l
  unfolding together
  together_parts [] = refl
  together_parts (x ∷ l) = ap (λ (m : List (A × B)). x ∷ m) (together_parts l)

  pub length_parts : (l : List (A × B)) → length (seconds l) ≡ length (firsts l)
  length_parts [] = refl
  length_parts (x ∷ l) = ap suc (length_parts l)

  module _ (P : A → Type 0) (Q : B → Type 0) where
    pub every_pair : (as' : List A) (bs : List B) → Every P as' → Every Q bs → Every (λ (x : A × B). P x.0 × Q x.1) (together as' bs)
    unfolding together Every
    every_pair [] bs h k = tt
    every_pair (a ∷ as') [] h k = tt
    every_pair (a ∷ as') (b ∷ bs) h k = ((h.0, k.0), every_pair as' bs h.1 k.1)

    pub every_first : (l : List (A × B)) → Every (λ (x : A × B). P x.0 × Q x.1) l → Every P (firsts l)
    unfolding Every
    every_first [] h = tt
    every_first (x ∷ l) h = (h.0.0, every_first l h.1)

    pub every_second : (l : List (A × B)) → Every (λ (x : A × B). P x.0 × Q x.1) l → Every Q (seconds l)
    unfolding Every
    every_second [] h = tt
    every_second (x ∷ l) h = (h.0.1, every_second l h.1)
