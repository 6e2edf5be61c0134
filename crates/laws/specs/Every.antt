-- Laws of `Every`: how what holds of all elements passes to parts and places of a list, through maps, and from one property to another.
use Rattle.std.specs.Prelude.{◌≡◌, refl, length, get_or, take, drop, replicate}
use Rattle.std.proofs.Common.{ap₂, arith}
use mathlib.Core.List.{List, [], ◌∷◌, ◌++◌, map, reverse, reverse_aux}
use Prim.Native.Nat.{ℕ, zero, suc, ◌<◌}
use Rattle.pcrl.specs.Tests.{Every}

module _ {A : Type 0} (P : A → Type 0) where
  -- what holds of everything
  pub every_of_all : ((a : A) → P a) → (l : List A) → Every P l
  unfolding Every
  every_of_all f [] = tt
  every_of_all f (a ∷ l) = (f a, every_of_all f l)

  -- PARTS

  pub every_append : (l m : List A) → Every P l → Every P m → Every P (l ++ m)
  unfolding Every
  every_append [] m h k = k
  every_append (a ∷ l) m h k = (h.0, every_append l m h.1 k)

  pub every_left : (l m : List A) → Every P (l ++ m) → Every P l
  unfolding Every
  every_left [] m h = tt
  every_left (a ∷ l) m h = (h.0, every_left l m h.1)

  pub every_right : (l m : List A) → Every P (l ++ m) → Every P m
  unfolding Every
  every_right [] m h = h
  every_right (a ∷ l) m h = every_right l m h.1

  pub every_take : (n : ℕ) (l : List A) → Every P l → Every P (take n l)
  unfolding Every
  every_take zero l h = tt
  every_take (suc n) [] h = tt
  every_take (suc n) (a ∷ l) h = (h.0, every_take n l h.1)

  pub every_drop : (n : ℕ) (l : List A) → Every P l → Every P (drop n l)
  unfolding Every
  every_drop zero l h = h
  every_drop (suc n) [] h = tt
  every_drop (suc n) (a ∷ l) h = every_drop n l h.1

  every_reverse_aux : (l m : List A) → Every P l → Every P m → Every P (reverse_aux l m)
  unfolding Every
  every_reverse_aux [] m h k = k
  every_reverse_aux (a ∷ l) m h k = every_reverse_aux l (a ∷ m) h.1 (h.0, k)

  pub every_reverse : (l : List A) → Every P l → Every P (reverse l)
  unfolding Every
  every_reverse l h = every_reverse_aux l [] h tt

  pub every_replicate : (n : ℕ) (a : A) → P a → Every P (replicate n a)
  unfolding Every
  every_replicate zero a h = tt
  every_replicate (suc n) a h = (h, every_replicate n a h)

  -- PLACES

  -- element i, which is there
  pub every_at : (l : List A) (d : A) (i : ℕ) → Every P l → i < length l → P (get_or l i d)
  unfolding Every
  every_at [] d i h k = absurd (omega arith)
  every_at (a ∷ l) d zero h k = h.0
  every_at (a ∷ l) d (suc i) h k = every_at l d i h.1 (omega arith)

  -- element i, or what stands for a missing one
  pub every_get_or : (l : List A) (d : A) (i : ℕ) → Every P l → P d → P (get_or l i d)
  unfolding Every
  every_get_or [] d i h k = k
  every_get_or (a ∷ l) d zero h k = h.0
  every_get_or (a ∷ l) d (suc i) h k = every_get_or l d i h.1 k

  pub at_every : (l : List A) (d : A) → ((i : ℕ) → i < length l → P (get_or l i d)) → Every P l
  unfolding Every
  at_every [] d f = tt
  at_every (a ∷ l) d f = (f 0 (omega arith), at_every l d (λ i w. f (suc i) (omega arith)))

-- a list of one element, again and again
pub replicate_of_every : {A : Type 0} (a : A) (l : List A) → Every (λ x. x ≡ a) l → l ≡ replicate (length l) a
unfolding Every
replicate_of_every a [] h = refl
replicate_of_every a (x ∷ l) h = ap₂ ◌∷◌ h.0 (replicate_of_every a l h.1)

-- OTHER PROPERTIES

pub every_weaken : {A : Type 0} (P Q : A → Type 0) → ((a : A) → P a → Q a) → (l : List A) → Every P l → Every Q l
unfolding Every
every_weaken P Q f [] h = tt
every_weaken P Q f (a ∷ l) h = (f a h.0, every_weaken P Q f l h.1)

-- two facts about each element give a third
pub every_both : {A : Type 0} (P Q R : A → Type 0) → ((a : A) → P a → Q a → R a) → (l : List A) → Every P l → Every Q l → Every R l
unfolding Every
every_both P Q R f [] h k = tt
every_both P Q R f (a ∷ l) h k = (f a h.0 k.0, every_both P Q R f l h.1 k.1)

module _ {A B : Type 0} (P : A → Type 0) (Q : B → Type 0) (g : A → B) where
  pub every_map : ((a : A) → P a → Q (g a)) → (l : List A) → Every P l → Every Q (map g l)
  unfolding Every
  every_map f [] h = tt
  every_map f (a ∷ l) h = (f a h.0, every_map f l h.1)

  pub map_every : ((a : A) → Q (g a) → P a) → (l : List A) → Every Q (map g l) → Every P l
  unfolding Every
  map_every f [] h = tt
  map_every f (a ∷ l) h = (f a h.0, map_every f l h.1)
