-- Laws of lists that the library has not: what stands at a place, two maps as one, and lists by their places.
use Rattle.std.specs.Prelude.{◌≡◌, List, [], ◌∷◌, ◌++◌, map, ◌⊎◌, length, get_or, drop}
use Rattle.std.proofs.Math.Path.{refl, ap}
use Rattle.std.proofs.Common.{◌∙◌, arith, length-append}
use Rattle.std.proofs.Math.Logic.{inl, inr}
use Rattle.std.proofs.Math.Option.{none, some}
use Prim.Native.Nat.{ℕ, zero, suc, ◌<◌, ◌≤◌}
use Rattle.std.proofs.Math.ListN.{get_elem?}
use Rattle.pcrl.specs.Lists.{tabulate}

pub length_snoc : {A : Type 0} (l : List A) (a : A) → length (l ++ (a ∷ [])) ≡ suc (length l)
length_snoc l a = simp length-append (omega arith)

-- MAPS

pub map_twice : {A B C : Type 0} (f : B → C) (g : A → B) (h : A → C) → ((a : A) → f (g a) ≡ h a) → (l : List A) → map f (map g l) ≡ map h l
map_twice f g h e [] = refl
map_twice f g h e (a ∷ l) = cc (e a, map_twice f g h e l)

pub map_drop : {A B : Type 0} (f : A → B) (i : ℕ) (l : List A) → drop i (map f l) ≡ map f (drop i l)
map_drop f zero l = refl
map_drop f (suc i) [] = refl
map_drop f (suc i) (a ∷ l) = map_drop f i l

pub get_d_map : {A B : Type 0} (f : A → B) (l : List A) (i : ℕ) (a : A) (b : B) → i < length l → get_or (map f l) i b ≡ f (get_or l i a)
get_d_map f [] i a b h = absurd (omega arith)
get_d_map f (x ∷ l) zero a b h = refl
get_d_map f (x ∷ l) (suc i) a b h = get_d_map f l i a b (omega arith)

-- PLACES

module _ {A : Type 0} where
  -- something stands at the places below the length, and only there
  pub get_elem?_below : (l : List A) (i : ℕ) (d : A) → i < length l → get_elem? l i ≡ some (get_or l i d)
  get_elem?_below [] i d h = absurd (omega arith)
  get_elem?_below (a ∷ l) zero d h = refl
  get_elem?_below (a ∷ l) (suc i) d h = get_elem?_below l i d (omega arith)

  pub get_elem?_past : (l : List A) (i : ℕ) → length l ≤ i → get_elem? l i ≡ none
  get_elem?_past [] i h = refl
  get_elem?_past (a ∷ l) zero h = absurd (omega arith)
  get_elem?_past (a ∷ l) (suc i) h = get_elem?_past l i (omega arith)

  pub below_some : (l : List A) (i : ℕ) (a : A) → get_elem? l i ≡ some a → i < length l
  below_some [] i a e = absurd (let z : ◌≡◌ {A = ℕ} 0 1 = cc in omega arith)
  below_some (x ∷ l) zero a e = omega arith
  below_some (x ∷ l) (suc i) a e = omega (arith, below_some l i a e)

  pub past_none : (l : List A) (i : ℕ) → get_elem? l i ≡ none → length l ≤ i
  past_none [] i e = omega arith
  past_none (a ∷ l) zero e = absurd (let z : ◌≡◌ {A = ℕ} 0 1 = cc in omega arith)
  past_none (a ∷ l) (suc i) e = omega (arith, past_none l i e)

  -- more behind a list changes nothing in it
  pub get_elem?_append : (l m : List A) (i : ℕ) → i < length l → get_elem? (l ++ m) i ≡ get_elem? l i
  get_elem?_append [] m i h = absurd (omega arith)
  get_elem?_append (a ∷ l) m zero h = refl
  get_elem?_append (a ∷ l) m (suc i) h = get_elem?_append l m i (omega arith)

  pub some_append : (l m : List A) (i : ℕ) (a : A) → get_elem? l i ≡ some a → get_elem? (l ++ m) i ≡ some a
  some_append l m i a e = get_elem?_append l m i (below_some l i a e) ∙ e

  pub get_elem?_append_seam : (l : List A) (a : A) (m : List A) → get_elem? (l ++ (a ∷ m)) (length l) ≡ some a
  get_elem?_append_seam [] a m = refl
  get_elem?_append_seam (x ∷ l) a m = get_elem?_append_seam l a m

  -- A LIST BY ITS PLACES

  pub length_tabulate : (n : ℕ) (f : ℕ → A) → length (tabulate n f) ≡ n
  unfolding tabulate
  length_tabulate zero f = refl
  length_tabulate (suc n) f = ap suc (length_tabulate n (λ i. f (suc i)))

  pub get_d_tabulate : (n : ℕ) (f : ℕ → A) (i : ℕ) (d : A) → i < n → get_or (tabulate n f) i d ≡ f i
  unfolding tabulate
  get_d_tabulate zero f i d h = absurd (omega arith)
  get_d_tabulate (suc n) f zero d h = refl
  get_d_tabulate (suc n) f (suc i) d h = get_d_tabulate n (λ k. f (suc k)) i d (omega arith)

  pub get_elem?_tabulate : (n : ℕ) (f : ℕ → A) (i : ℕ) → (get_elem? (tabulate n f) i ≡ none) ⊎ (get_elem? (tabulate n f) i ≡ some (f i))
  unfolding tabulate
  get_elem?_tabulate zero f i = inl refl
  get_elem?_tabulate (suc n) f zero = inr refl
  get_elem?_tabulate (suc n) f (suc i) = get_elem?_tabulate n (λ k. f (suc k)) i
