-- Laws of `Any`: what holds of some element of a list, through `++`, maps and joined lists, and at which place it stands.
use Rattle.std.specs.Prelude.{◌≡◌, refl, ◌⊎◌}
use Rattle.std.proofs.Common.{ap}
use mathlib.Core.List.{List, [], ◌∷◌, ◌++◌, map}
use Rattle.std.proofs.Math.Logic.{inl, inr}
use Rattle.std.proofs.Math.Option.{some}
use Prim.Native.Nat.{ℕ, zero, suc, ◌<◌}
use native.Mathlib.Omega.{arith}
use Rattle.std.proofs.Math.ListN.{get_elem?}
use Rattle.pcrl.specs.Tests.{Every}
use Rattle.pcrl.specs.Reader.{all}
use Rattle.pcrl.specs.Lists.{tabulate}
use Rattle.pcrl.specs.Steps.{Any, here, there}

module _ {A : Type 0} {P : A → Type 0} where
  pub any_left : {xs : List A} (ys : List A) → Any P xs → Any P (xs ++ ys)
  any_left ys (here q) = here q
  any_left ys (there r) = there (any_left ys r)

  pub any_right : (xs : List A) {ys : List A} → Any P ys → Any P (xs ++ ys)
  any_right [] r = r
  any_right (x ∷ xs) r = there (any_right xs r)

  pub any_cases : (xs : List A) {ys : List A} → Any P (xs ++ ys) → Any P xs ⊎ Any P ys
  any_cases [] r = inr r
  any_cases (x ∷ xs) (here q) = inl (here q)
  any_cases (x ∷ xs) (there r) = elim (any_cases xs r) [ inl a ↦ inl (there a) | inr b ↦ inr b ]

  pub any_to : {Q : A → Type 0} {xs : List A} → ((x : A) → P x → Q x) → Any P xs → Any Q xs
  any_to f (here q) = here (f _ q)
  any_to f (there r) = there (any_to f r)

pub any_none : {A : Type 0} {P : A → Type 0} → Any P [] → ⊥
any_none h = elim h [ ]

pub any_one : {A : Type 0} {P : A → Type 0} {x : A} → Any P (x ∷ []) → P x
any_one (here q) = q
any_one (there r) = absurd (any_none r)

pub any_some : {A C : Type 0} {Q : C → A → Type 0} {xs : List A} → Any (λ x. (v : C) × Q v x) xs → (v : C) × Any (λ x. Q v x) xs
any_some (here q) = (q.0, here q.1)
any_some (there r) = let (v, t) = any_some r in (v, there t)

module _ {A B : Type 0} {P : B → Type 0} (f : A → B) where
  pub any_map : {xs : List A} → Any (λ x. P (f x)) xs → Any P (map f xs)
  any_map (here q) = here q
  any_map (there r) = there (any_map r)

  pub any_of_map : (xs : List A) → Any P (map f xs) → Any (λ x. P (f x)) xs
  any_of_map [] h = elim h [ ]
  any_of_map (x ∷ xs) (here q) = here q
  any_of_map (x ∷ xs) (there r) = there (any_of_map xs r)

-- x stands in the list
abbrev pub In : {A : Type 0} → A → List A → Type 0
In x xs = Any (λ y. y ≡ x) xs

module _ {A B : Type 0} {P : B → Type 0} (f : A → List B) where
  pub any_all : {xs : List A} → Any (λ x. Any P (f x)) xs → Any P (all f xs)
  unfolding all
  any_all (here q) = any_left _ q
  any_all (there {x} r) = any_right (f x) (any_all r)

  pub any_of_all : (xs : List A) → Any P (all f xs) → Any (λ x. Any P (f x)) xs
  unfolding all
  any_of_all [] h = absurd (any_none h)
  any_of_all (x ∷ xs) h = elim (any_cases (f x) h) [ inl a ↦ here a | inr b ↦ there (any_of_all xs b) ]

module _ {A : Type 0} {P : A → Type 0} where
  pub any_tabulate : (n : ℕ) (f : ℕ → A) (i : ℕ) → i < n → P (f i) → Any P (tabulate n f)
  unfolding tabulate
  any_tabulate zero f i h q = absurd (omega arith)
  any_tabulate (suc n) f zero h q = here q
  any_tabulate (suc n) f (suc i) h q = there (any_tabulate n (λ k. f (suc k)) i (omega arith) q)

  pub any_of_tabulate : (n : ℕ) (f : ℕ → A) → Any P (tabulate n f) → (i : ℕ) × (i < n) × P (f i)
  unfolding tabulate
  any_of_tabulate zero f h = absurd (any_none h)
  any_of_tabulate (suc n) f (here q) = (zero, omega arith, q)
  any_of_tabulate (suc n) f (there r) = let (i, h, q) = any_of_tabulate n (λ k. f (suc k)) r in (suc i, omega arith, q)

-- what stands in a list stands at some place
module _ {A : Type 0} where
  pub place_in : (xs : List A) (k : ℕ) (x : A) → get_elem? xs k ≡ some x → In x xs
  place_in [] k x h = absurd (let z : ◌≡◌ {A = ℕ} 0 1 = cc in omega arith)
  place_in (y ∷ xs) zero x h = let e : y ≡ x = cc in here e
  place_in (y ∷ xs) (suc k) x h = there (place_in xs k x h)

  pub in_place : {x : A} {xs : List A} → In x xs → (k : ℕ) × (get_elem? xs k ≡ some x)
  in_place (here q) = (zero, ap some q)
  in_place (there r) = let (k, e) = in_place r in (suc k, e)

pub any_found : {A : Type 0} {P : A → Type 0} {xs : List A} → Any P xs → (x : A) × In x xs × P x
any_found (here {x} q) = (x, here refl, q)
any_found (there r) = let (x, a, q) = any_found r in (x, there a, q)

-- one element of which something holds, among elements of which something else holds
pub every_any : {A : Type 0} {Q R : A → Type 0} (xs : List A) → Every Q xs → Any R xs → (x : A) × Q x × R x
unfolding Every
every_any [] h k = elim k [ ]
every_any (x ∷ xs) h (here r) = (x, h.0, r)
every_any (x ∷ xs) h (there k) = every_any xs h.1 k
