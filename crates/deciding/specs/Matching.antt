-- Is each element of either of two lists matched by one of the other? Each pair is tried once, and its answer used both ways.
use Rattle.std.specs.Prelude.{refl, List, [], ◌∷◌}
use Rattle.std.proofs.Common.{subst}
use Rattle.pcrl.specs.Tests.{both?}
use Rattle.pcrl.specs.Steps.{Any, here, there}
use Rattle.laws.specs.Any.{In, any_none}

-- an answer for each element of a list
pub data Answers {A : Type 0} (P : A → Type 0) : List A → Type 0 where
  none : Answers P []
  more : {x : A} {xs : List A} → Dec (P x) → Answers P xs → Answers P (x ∷ xs)

module _ {A : Type 0} {P : A → Type 0} where
  unfoldable pub answers : ((x : A) → Dec (P x)) → (xs : List A) → Answers P xs
  answers p [] = none
  answers p (x ∷ xs) = more (p x) (answers p xs)

  pub neither : {x : A} {xs : List A} → (P x → ⊥) → (Any P xs → ⊥) → Any P (x ∷ xs) → ⊥
  neither h k (here q) = h q
  neither h k (there r) = k r

  unfoldable pub either? : {x : A} {xs : List A} → Dec (P x) → Dec (Any P xs) → Dec (Any P (x ∷ xs))
  either? (yes h) d = yes (here h)
  either? (no h) (yes k) = yes (there k)
  either? (no h) (no k) = no (λ a. neither h k a)

  unfoldable pub some_of? : {xs : List A} → Answers P xs → Dec (Any P xs)
  some_of? none = no any_none
  some_of? (more d ds) = either? d (some_of? ds)

  pub each_in : {x : A} {xs : List A} → P x → ((y : A) → In y xs → P y) → (y : A) → In y (x ∷ xs) → P y
  each_in h f y (here e) = subst P e h
  each_in h f y (there a) = f y a

  unfoldable pub all_of? : {xs : List A} → Answers P xs → Dec ((x : A) → In x xs → P x)
  all_of? none = yes (λ x a. absurd (any_none a))
  all_of? (more (yes h) ds) = elim (all_of? ds) [ yes f ↦ yes (λ y a. each_in h f y a) | no k ↦ no (λ f. k (λ y a. f y (there a))) ]
  all_of? (more (no h) ds) = no (λ f. h (f _ (here refl)))

abbrev pub Matched : {A B : Type 0} → (A → B → Type 0) → List A → List B → Type 0
Matched {A} {B} R xs ys = ((x : A) → In x xs → Any (λ y. R x y) ys) × ((y : B) → In y ys → Any (λ x. R x y) xs)

module _ {A B : Type 0} {R : A → B → Type 0} where
  unfoldable pub joined : {x : A} {xs : List A} {ys : List B} → Answers (R x) ys → Answers (λ y. Any (λ a. R a y) xs) ys → Answers (λ y. Any (λ a. R a y) (x ∷ xs)) ys
  joined none none = none
  joined (more d ds) (more e es) = more (either? d e) (joined ds es)

  -- for each element whether one of the other list matches it
  unfoldable pub tried : ((x : A) (y : B) → Dec (R x y)) → (xs : List A) (ys : List B) → Answers (λ x. Any (λ y. R x y) ys) xs × Answers (λ y. Any (λ x. R x y) xs) ys
  tried test [] ys = (none, answers (λ y. no any_none) ys)
  tried test (x ∷ xs) ys =
      let row = answers (test x) ys in
      let rest = tried test xs ys in
      (more (some_of? row) rest.0, joined row rest.1)

  unfoldable pub matched? : ((x : A) (y : B) → Dec (R x y)) → (xs : List A) (ys : List B) → Dec (Matched R xs ys)
  matched? test xs ys = let t = tried test xs ys in both? (all_of? t.0) (all_of? t.1)
