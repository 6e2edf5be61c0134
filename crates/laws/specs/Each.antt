-- Laws of `Each`: how what holds at each place of two lists passes to places, other properties and the lists turned round.
use Rattle.std.specs.Prelude.{◌≡◌, length, get_or}
use Rattle.std.proofs.Math.Path.{refl, ap, ap₂}
use mathlib.Core.List.{List, [], ◌∷◌, ◌++◌, map}
use Prim.Native.Nat.{ℕ, zero, suc, ◌<◌}
use Rattle.std.proofs.Common.{arith}
use Rattle.pcrl.specs.Tests.{Every, Each}

module _ {A B : Type 0} (R : A → B → Type 0) where
  pub each_length : (l : List A) (m : List B) → Each R l m → length l ≡ length m
  unfolding Each
  each_length [] [] h = refl
  each_length [] (b ∷ m) h = absurd h
  each_length (a ∷ l) [] h = absurd h
  each_length (a ∷ l) (b ∷ m) h = ap suc (each_length l m h.1)

  pub each_append : (l l' : List A) (m m' : List B) → Each R l m → Each R l' m' → Each R (l ++ l') (m ++ m')
  unfolding Each
  each_append [] l' [] m' h k = k
  each_append [] l' (b ∷ m) m' h k = absurd h
  each_append (a ∷ l) l' [] m' h k = absurd h
  each_append (a ∷ l) l' (b ∷ m) m' h k = (h.0, each_append l l' m m' h.1 k)

  pub each_at : (l : List A) (m : List B) (i : ℕ) (a : A) (b : B) → i < length l → Each R l m → R (get_or l i a) (get_or m i b)
  unfolding Each
  each_at [] m i a b w h = absurd (omega arith)
  each_at (x ∷ l) [] i a b w h = absurd h
  each_at (x ∷ l) (y ∷ m) zero a b w h = h.0
  each_at (x ∷ l) (y ∷ m) (suc i) a b w h = each_at l m i a b (omega arith) h.1

  -- with what holds of each element of the first list
  pub each_with : (P : A → Type 0) (l : List A) (m : List B) → Every P l → Each R l m → Each (λ a b. P a × R a b) l m
  unfolding Every Each
  each_with P [] [] k h = tt
  each_with P [] (b ∷ m) k h = absurd h
  each_with P (a ∷ l) [] k h = absurd h
  each_with P (a ∷ l) (b ∷ m) k h = ((k.0, h.0), each_with P l m k.1 h.1)

  -- what holds of each element of the first list, and of pairs, gives what holds of each of the second
  pub each_every : (P : A → Type 0) (Q : B → Type 0) → ((a : A) (b : B) → R a b → P a → Q b) → (l : List A) (m : List B) → Each R l m → Every P l → Every Q m
  unfolding Each Every
  each_every P Q f [] [] h k = tt
  each_every P Q f [] (b ∷ m) h k = absurd h
  each_every P Q f (a ∷ l) [] h k = absurd h
  each_every P Q f (a ∷ l) (b ∷ m) h k = (f a b h.0 k.0, each_every P Q f l m h.1 k.1)

  -- elements that correspond are viewed alike
  pub each_map : {C : Type 0} (f : A → C) (g : B → C) → ((a : A) (b : B) → R a b → f a ≡ g b) → (l : List A) (m : List B) → Each R l m → map f l ≡ map g m
  unfolding Each
  each_map f g e [] [] h = refl
  each_map f g e [] (b ∷ m) h = absurd h
  each_map f g e (a ∷ l) [] h = absurd h
  each_map f g e (a ∷ l) (b ∷ m) h = ap₂ ◌∷◌ (e a b h.0) (each_map f g e l m h.1)

  -- the other way round
  pub each_flip : (S : B → A → Type 0) → ((a : A) (b : B) → R a b → S b a) → (l : List A) (m : List B) → Each R l m → Each S m l
  unfolding Each
  each_flip S f [] [] h = tt
  each_flip S f [] (b ∷ m) h = absurd h
  each_flip S f (a ∷ l) [] h = absurd h
  each_flip S f (a ∷ l) (b ∷ m) h = (f a b h.0, each_flip S f l m h.1)

-- the other way round, with what holds of each element of the first list
pub each_turned : {A B : Type 0} (R : A → B → Type 0) (P : A → Type 0) (l : List A) (m : List B) → Each R l m → Every P l → Each (λ b a. R a b × P a) m l
each_turned R P l m h k = each_flip _ _ (λ a b x. (x.1, x.0)) l m (each_with R P l m k h)

-- two views of one list correspond where they do at each element
pub each_of_every : {A B C : Type 0} (R : B → C → Type 0) (f : A → B) (g : A → C) (l : List A) → Every (λ a. R (f a) (g a)) l → Each R (map f l) (map g l)
unfolding Every Each
each_of_every R f g [] h = tt
each_of_every R f g (a ∷ l) h = (h.0, each_of_every R f g l h.1)
