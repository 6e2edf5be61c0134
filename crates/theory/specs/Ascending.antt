-- Lists that ascend by a relation: each element stands before all later ones. How `++`, `map`, `all` and tabulating keep that,
-- and what it says of places: a later place has a later element, so nothing stands at two places.
use Rattle.std.proofs.Math.Path.{◌≡◌, subst}
use Rattle.std.specs.Prelude.{refl}
use mathlib.Core.List.{List, [], ◌∷◌, ◌++◌, map}
use Rattle.std.proofs.Math.Logic.{inl, inr}
use Rattle.std.proofs.Math.Option.{some}
use Prim.Native.Nat.{ℕ, zero, suc, ◌<◌}
use Rattle.std.proofs.Common.{arith}
use Rattle.std.proofs.Math.Decide.{dec_lt}
use Rattle.std.proofs.Math.ListN.{get_elem?}
use Rattle.pcrl.specs.Reader.{all}
use Rattle.pcrl.specs.Lists.{tabulate}
use Rattle.pcrl.specs.Steps.{here, there, if_met}
use Rattle.laws.specs.Any.{any_cases, any_none, any_of_map, In, any_of_all, any_found, any_of_tabulate, place_in}
use Rattle.theory.specs.Listing.{any_of_if_met}

module _ {A : Type 0} (R : A → A → Type 0) where
  unfoldable pub Ascending : List A → Type 0
  Ascending [] = Unit {0}
  Ascending (x ∷ xs) = ((y : A) → In y xs → R x y) × Ascending xs

  pub ascending_append : (xs ys : List A) → Ascending xs → Ascending ys → ((x y : A) → In x xs → In y ys → R x y) → Ascending (xs ++ ys)
  unfolding Ascending
  ascending_append [] ys a b c = b
  ascending_append (x ∷ xs) ys a b c = (
    λ y h. elim (any_cases xs h) [ inl i ↦ a.0 y i | inr i ↦ c x y (here refl) i ],
    ascending_append xs ys a.1 b (λ z y i j. c z y (there i) j),
  )

  -- a later place has a later element
  pub ascending_places : (xs : List A) → Ascending xs → (i j : ℕ) (x y : A) → i < j → get_elem? xs i ≡ some x → get_elem? xs j ≡ some y → R x y
  unfolding Ascending
  ascending_places [] a i j x y h p q = absurd (let z : ◌≡◌ {A = ℕ} 0 1 = cc in omega arith)
  ascending_places (z ∷ xs) a i zero x y h p q = absurd (omega arith)
  ascending_places (z ∷ xs) a zero (suc j) x y h p q = let e : z ≡ x = cc in subst (λ (w : A). R w y) e (a.0 y (place_in xs j y q))
  ascending_places (z ∷ xs) a (suc i) (suc j) x y h p q = ascending_places xs a.1 i j x y (omega arith) p q

  -- nothing stands at two places
  pub ascending_once : ((x : A) → R x x → ⊥) → (xs : List A) → Ascending xs → (i j : ℕ) (x : A) → get_elem? xs i ≡ some x → get_elem? xs j ≡ some x → i ≡ j
  ascending_once irr xs a i j x p q = by (dec_lt i j) (dec_lt j i)
    where
      by : Dec (i < j) → Dec (j < i) → i ≡ j
      by (yes h) d = absurd (irr x (ascending_places xs a i j x x h p q))
      by (no h) (yes k) = absurd (irr x (ascending_places xs a j i x x k q p))
      by (no h) (no k) = omega arith

module _ {A B : Type 0} (R : A → A → Type 0) (S : B → B → Type 0) where
  pub ascending_map : (f : A → B) → ((x y : A) → R x y → S (f x) (f y)) → (xs : List A) → Ascending R xs → Ascending S (map f xs)
  unfolding Ascending
  ascending_map f up [] a = tt
  ascending_map f up (x ∷ xs) a = (
    λ y h. let (z, i, e) = any_found (any_of_map f xs h) in subst (λ (w : B). S (f x) w) e (up x z (a.0 z i)),
    ascending_map f up xs a.1,
  )

  -- lists that ascend, one after another, each before the next
  pub ascending_all : (f : A → List B) → ((x : A) → Ascending S (f x)) → ((x y : A) → R x y → (u v : B) → In u (f x) → In v (f y) → S u v)
      → (xs : List A) → Ascending R xs → Ascending S (all f xs)
  unfolding Ascending all
  ascending_all f own up [] a = tt
  ascending_all f own up (x ∷ xs) a =
      ascending_append S (f x) (all f xs) (own x) (ascending_all f own up xs a.1)
      (λ u v i j. let (y, k, h) = any_found (any_of_all f xs j) in up x y (a.0 y k) u v i h)

-- what is left of a list when a test has been put to its elements
pub ascending_if_met : {A : Type 0} (R : A → A → Type 0) {P : A → Type 0} (p : (a : A) → Dec (P a)) (xs : List A) → Ascending R xs → Ascending R (all (λ a. if_met (p a) a) xs)
unfolding Ascending if_met
ascending_if_met {A} R p xs a =
    ascending_all R R (λ a. if_met (p a) a) (λ x. alone x (p x))
    (λ x y r u v i j. subst (λ (w : A). R w v) (any_of_if_met (p x) x i).1 (subst (λ (w : A). R x w) (any_of_if_met (p y) y j).1 r)) xs a
  where
    alone : {X : Type 0} (x : A) (d : Dec X) → Ascending R (if_met d x)
    alone x (yes h) = (λ y i. absurd (any_none i), tt)
    alone x (no h) = tt

pub ascending_tabulate : {A : Type 0} (R : A → A → Type 0) (f : ℕ → A) → ((i j : ℕ) → i < j → R (f i) (f j)) → (n : ℕ) → Ascending R (tabulate n f)
unfolding Ascending tabulate
ascending_tabulate R f up zero = tt
ascending_tabulate {A} R f up (suc n) = (
  λ y h. let (i, w, e) = any_of_tabulate n (λ k. f (suc k)) h in subst (λ (z : A). R (f zero) z) e (up zero (suc i) (omega arith)),
  ascending_tabulate R (λ k. f (suc k)) (λ i j h. up (suc i) (suc j) (omega arith)) n,
)
