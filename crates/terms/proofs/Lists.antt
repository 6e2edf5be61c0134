-- Counted lists of numbers: which numbers are read, and that the readers of the stream are lists between bounds.
use mathlib.Core.Path.{◌≡◌, refl, sym, ap, fun_ext, ◌∙◌}
use mathlib.Core.List.{List, [], ◌∷◌}
use Prim.Native.Nat.{ℕ, zero, suc, ◌+◌, ◌-◌, ◌<◌, ◌≤◌}
use native.Mathlib.Omega.{arith}
use lib.ListN.{length, get_or, take, drop, length-drop, drop_of_length-le}
use lib.Seq.{take_all}
use Rattle.pcrl.specs.Limits.{max_arity, max_sorts, max_size}
use Rattle.pcrl.specs.Tests.{between?, at_most?, below?}
use Rattle.pcrl.specs.Reader.{found, Reader, bind, keep, one, times, counted}
use Rattle.pcrl.specs.Decode.{read_sorts}
use Rattle.codec.specs.Lawful.{keeps}
use Rattle.codec.specs.StreamLaws.{numbers_law}
use Rattle.terms.specs.Stands.{list_at}
use Rattle.terms.specs.Ends.{rests}
use Rattle.terms.specs.Numbers.{from?, read_list}
use Rattle.terms.proofs.Rests.{drops, found_there}
use Rattle.terms.proofs.Places.{list_is}

-- THE LIST AT A PLACE

pub list_past : (s : List ℕ) (p : ℕ) → length s ≤ p → [] ≡ list_at s p
list_past s p h = rw (drop_of_length-le s {i = p + 1} (omega arith)) (sym (nothing (get_or s p 0)))
  where
    nothing : (n : ℕ) → ◌≡◌ {A = List ℕ} (take n []) []
    nothing zero = refl
    nothing (suc n) = refl

-- what a slice up to the end is
pub list_cut : (s : List ℕ) (p b m : ℕ) → b ≡ p + 1 → length s < b + get_or s p 0 → m ≡ length s - b → take m (drop b s) ≡ list_at s p
list_cut s p b m z h e =
    let l : length (drop b s) ≤ m = omega (arith, length-drop b s) in
    let k : length (drop b s) ≤ get_or s p 0 = omega (arith, length-drop b s) in
    take_all m (drop b s) l ∙ sym (take_all (get_or s p 0) (drop b s) k) ∙ ap (λ (i : ℕ). take (get_or s p 0) (drop i s)) z

pub list_whole : (s : List ℕ) (p b m : ℕ) → b ≡ p + 1 → m ≡ get_or s p 0 → take m (drop b s) ≡ list_at s p
list_whole s p b m z e = rw (z, e)

-- TWO TESTS OF THE SAME NUMBERS

module _ {P Q : ℕ → Type 0} (p : (n : ℕ) → Dec (P n)) (q : (n : ℕ) → Dec (Q n)) (to : (n : ℕ) → P n → Q n) (fro : (n : ℕ) → Q n → P n) where
  keep_alike : (x : ℕ) (xs : List ℕ) (d : Dec (P x)) → keep d x xs ≡ keep (q x) x xs
  unfolding keep
  keep_alike x xs (yes h) = sym (keeps (q x) x xs (to x h))
  keep_alike x xs (no h) = sym (drops (q x) x xs (λ k. h (fro x k)))

  pub one_alike : (xs : List ℕ) → one p xs ≡ one q xs
  unfolding one
  one_alike [] = refl
  one_alike (x ∷ xs) = keep_alike x xs (p x)

module _ {P Q P' Q' : ℕ → Type 0} (p : (n : ℕ) → Dec (P n)) (q : (n : ℕ) → Dec (Q n)) (p' : (n : ℕ) → Dec (P' n)) (q' : (n : ℕ) → Dec (Q' n)) where
  numbers_alike : ((n : ℕ) → P n → P' n) → ((n : ℕ) → P' n → P n) → ((n : ℕ) → Q n → Q' n) → ((n : ℕ) → Q' n → Q n)
      → (xs : List ℕ) → counted p (one q) xs ≡ counted p' (one q') xs
  unfolding counted
  numbers_alike a b c d xs =
      rw (one_alike p p' a b xs) (ap (λ (r : Reader ℕ ℕ). bind (one p' xs) (λ n ys. times r n ys)) (fun_ext (one_alike q q' c d)))

-- the readers of the stream
module _ (sizes xs : List ℕ) where
  pub sorts_list : (most : ℕ) → read_sorts sizes most xs ≡ read_list 0 most 0 (length sizes) xs
  unfolding read_sorts read_list
  sorts_list most =
      numbers_alike (at_most? most) (below? (length sizes)) (between? 0 most) (from? 0 (length sizes))
      (λ n h. (omega arith, h)) (λ n h. h.1) (λ n h. (omega arith, h)) (λ n h. h.1) xs

  pub takes_list : counted (between? 1 max_arity) (one (below? (length sizes))) xs ≡ read_list 1 max_arity 0 (length sizes) xs
  unfolding read_list
  takes_list =
      numbers_alike (between? 1 max_arity) (below? (length sizes)) (between? 1 max_arity) (from? 0 (length sizes))
      (λ n h. h) (λ n h. h) (λ n h. (omega arith, h)) (λ n h. h.1) xs

pub sizes_list : (xs : List ℕ) → counted (between? 1 max_sorts) (one (between? 1 max_size)) xs ≡ read_list 1 max_sorts 1 (suc max_size) xs
unfolding read_list
sizes_list xs =
    numbers_alike (between? 1 max_sorts) (between? 1 max_size) (between? 1 max_sorts) (from? 1 (suc max_size))
    (λ n h. h) (λ n h. h) (λ n h. (h.0, omega arith)) (λ n h. (h.0, omega arith)) xs

-- WHICH NUMBERS

-- Where a counted list of numbers is read, it is the list at its place.
pub numbers_are : {P Q : ℕ → Type 0} (p : (n : ℕ) → Dec (P n)) (q : (n : ℕ) → Dec (Q n)) (s : List ℕ) (at : ℕ) (ys : List ℕ)
    → rests (counted p (one q) (drop at s)) ≡ found tt ys → counted p (one q) (drop at s) ≡ found (list_at s at) ys
numbers_are p q s at ys e =
    let (l, f) = found_there (counted p (one q) (drop at s)) ys e in
    let (x, y) = (numbers_law p q).back (drop at s) l ys f in
    let z : list_at s at ≡ l = list_is s at l (ys, x) in
    f ∙ ap (λ (m : List ℕ). found m ys) (sym z)

pub list_found : (least most low limit : ℕ) (s : List ℕ) (at : ℕ) (ys : List ℕ) → rests (read_list least most low limit (drop at s)) ≡ found tt ys
    → read_list least most low limit (drop at s) ≡ found (list_at s at) ys
unfolding read_list
list_found least most low limit s at ys e = numbers_are (between? least most) (from? low limit) s at ys e
