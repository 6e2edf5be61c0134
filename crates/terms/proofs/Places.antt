-- What is read at a place where an encoding stands: its numbers, a counted list, a function's sorts and result.
use mathlib.Core.Path.{◌≡◌, refl, sym, ap, subst, ◌∙◌}
use mathlib.Core.List.{List, [], ◌∷◌, ◌++◌, append_assoc}
use Prim.Native.Nat.{ℕ, zero, suc, ◌+◌, ◌<◌}
use native.Mathlib.Omega.{arith}
use native.Mathlib.Nat.{add-zero}
use lib.ListN.{length, get_or, take, drop, get_or-append}
use lib.Seq.{take_at, drop_at, get_or-drop, drop-drop}
use Rattle.pcrl.specs.Tests.{Each}
use Rattle.pcrl.specs.Sheet.{Func, Action}
use Rattle.pcrl.specs.Stream.{encode_numbers, encode_func, encode_action}
use Rattle.terms.specs.Stands.{Stands, Standing, list_at}

-- R at each place
pub each_at : {A B : Type 0} (R : A → B → Type 0) (l : List A) (m : List B) (a : A) (b : B) (i : ℕ) → Each R l m → i < length l → R (get_or l i a) (get_or m i b)
unfolding Each
each_at R [] [] a b i h k = absurd (omega arith)
each_at R [] (y ∷ m) a b i h k = absurd h
each_at R (x ∷ l) [] a b i h k = absurd h
each_at R (x ∷ l) (y ∷ m) a b zero h k = h.0
each_at R (x ∷ l) (y ∷ m) a b (suc i) h k = each_at R l m a b i h.1 (omega arith)

pub each_length : {A B : Type 0} (R : A → B → Type 0) (l : List A) (m : List B) → Each R l m → length l ≡ length m
unfolding Each
each_length R [] [] h = refl
each_length R [] (y ∷ m) h = absurd h
each_length R (x ∷ l) [] h = absurd h
each_length R (x ∷ l) (y ∷ m) h = ap suc (each_length R l m h.1)

module _ {A : Type 0} (encode : A → List ℕ) (s : List ℕ) (xs : List A) (places : List ℕ) (k : Standing encode s xs places) where
  pub stands_there : (d : A) (i : ℕ) → i < length xs → Stands s (get_or places i 0) (encode (get_or xs i d))
  unfolding Standing
  stands_there d i h = each_at (λ x at. Stands s at (encode x)) xs places d 0 i k h

  pub as_many : length xs ≡ length places
  unfolding Standing
  as_many = each_length (λ x at. Stands s at (encode x)) xs places k

-- NUMBERS AT A PLACE

module _ (s : List ℕ) (p : ℕ) where
  -- a number of the encoding
  pub number_at : (e : List ℕ) (i : ℕ) → Stands s p e → i < length e → get_or s (p + i) 0 ≡ get_or e i 0
  number_at e i h k = sym (get_or-drop p s i 0) ∙ ap (λ (l : List ℕ). get_or l i 0) h.1 ∙ get_or-append e h.0 0 i k

  -- the rest of an encoding stands behind its first part
  pub behind : (e f : List ℕ) → Stands s p (e ++ f) → Stands s (p + length e) f
  behind e f h = (h.0, sym (drop-drop (length e) p s) ∙ ap (λ (l : List ℕ). drop (length e) l) (h.1 ∙ append_assoc e f h.0) ∙ drop_at e (f ++ h.0) (length e) refl)

  -- the first part of an encoding stands where it stands
  pub before : (e f : List ℕ) → Stands s p (e ++ f) → Stands s p e
  before e f h = (f ++ h.0, h.1 ∙ append_assoc e f h.0)

  module _ (l : List ℕ) (h : Stands s p (encode_numbers l)) where
    pub count_at : get_or s p 0 ≡ length l
    unfolding encode_numbers
    count_at = ap (λ (i : ℕ). get_or s i 0) (sym (add-zero p)) ∙ number_at (length l ∷ l) 0 h (omega arith)

    pub item_at : (i : ℕ) → i < length l → get_or s (p + 1 + i) 0 ≡ get_or l i 0
    unfolding encode_numbers
    item_at i k = let z : p + 1 + i ≡ p + suc i = omega arith in ap (λ (j : ℕ). get_or s j 0) z ∙ number_at (length l ∷ l) (suc i) h (omega arith)

    pub list_is : list_at s p ≡ l
    unfolding encode_numbers
    list_is =
        let z : drop (p + 1) s ≡ l ++ h.0 = sym (drop-drop 1 p s) ∙ ap (λ (m : List ℕ). drop 1 m) h.1 in
        ap (λ (m : List ℕ). take (get_or s p 0) m) z ∙ take_at l h.0 (get_or s p 0) (sym count_at)

    pub list_end : p + 1 + get_or s p 0 ≡ p + length (encode_numbers l)
    unfolding encode_numbers
    list_end = let z = count_at in omega arith

-- A FUNCTION AND AN ACTION AT A PLACE

module _ (s : List ℕ) (p : ℕ) (g : Func) (h : Stands s p (encode_func g)) where
  takes_stand : Stands s p (encode_numbers g.takes)
  unfolding encode_func
  takes_stand = before s p (encode_numbers g.takes) ((g.gives ∷ []) ++ g.values) h

  pub arity_at : get_or s p 0 ≡ length g.takes
  arity_at = count_at s p g.takes takes_stand

  pub takes_at : (i : ℕ) → i < length g.takes → get_or s (p + 1 + i) 0 ≡ get_or g.takes i 0
  takes_at = item_at s p g.takes takes_stand

  pub gives_at : get_or s (p + 1 + get_or s p 0) 0 ≡ g.gives
  unfolding encode_func
  gives_at =
      let q : Stands s (p + length (encode_numbers g.takes)) ((g.gives ∷ []) ++ g.values) = behind s p (encode_numbers g.takes) ((g.gives ∷ []) ++ g.values) h in
      let z : p + 1 + get_or s p 0 ≡ p + length (encode_numbers g.takes) + 0 = list_end s p g.takes takes_stand ∙ sym (add-zero _) in
      ap (λ (j : ℕ). get_or s j 0) z ∙ number_at s (p + length (encode_numbers g.takes)) (g.gives ∷ g.values) 0 q (omega arith)

module _ (s : List ℕ) (p : ℕ) (a : Action) (h : Stands s p (encode_action a)) where
  pub name_stands : Stands s p (encode_numbers a.name)
  unfolding encode_action
  name_stands = before s p (encode_numbers a.name) (encode_numbers a.takes) h

  -- the sorts stand behind the name
  pub sorts_stand : Stands s (p + 1 + get_or s p 0) (encode_numbers a.takes)
  unfolding encode_action
  sorts_stand = subst (λ (q : ℕ). Stands s q (encode_numbers a.takes)) (sym (list_end s p a.name name_stands)) (behind s p (encode_numbers a.name) (encode_numbers a.takes) h)
