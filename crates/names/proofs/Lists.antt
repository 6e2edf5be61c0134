-- Lists gone through by a counter: what is left, what is checked so far, and what is written behind what stands there.
use mathlib.Core.Path.{◌≡◌, refl, sym, ◌∙◌, ap}
use mathlib.Core.List.{List, [], ◌∷◌, ◌++◌, map, append_assoc, append-nil, map-append}
use Prim.Native.Nat.{ℕ, suc, ◌+◌, ◌≤◌, ◌<◌}
use native.Mathlib.Numerals.{add-one}
use native.Mathlib.Omega.{arith}
use lib.ListN.{length, take, drop, get_or, set, length-map, length-set, drop_of_length-le}
use lib.Seq.{get_or-take, length-take-le, take-suc, take-suc-set, take-take, take_at}
use Rattle.pcrl.specs.Tests.{Every}
use Rattle.laws.specs.Places.{drop_next}
use Rattle.names.specs.Rows.{Kept}
use Rattle.laws.specs.Lists.{get_d_map}

-- the images of the first n elements
module _ {A : Type 0} (f : ℕ → A) (l : List ℕ) (n : ℕ) (room : n ≤ length l) where
  pub mapped_length : length (map f (take n l)) ≡ n
  mapped_length = length-map (take n l) f ∙ length-take-le n l room

  pub mapped_at : (i : ℕ) (d : A) → i < n → get_or (map f (take n l)) i d ≡ f (get_or l i 0)
  mapped_at i d h = get_d_map f (take n l) i 0 d (omega (arith, length-take-le n l room)) ∙ ap f (get_or-take n l i 0 h)

  pub mapped_next : (i : ℕ) → i < n → drop i (map f (take n l)) ≡ f (get_or l i 0) ∷ drop (i + 1) (map f (take n l))
  mapped_next i h = drop_next (map f (take n l)) i (f 0) (omega (arith, mapped_length)) ∙ ap (λ (a : A). a ∷ drop (i + 1) (map f (take n l))) (mapped_at i (f 0) h)

-- one more image
pub mapped_more : {A : Type 0} (f : ℕ → A) (l : List ℕ) (i : ℕ) → i < length l → map f (take (i + 1) l) ≡ map f (take i l) ++ (f (get_or l i 0) ∷ [])
mapped_more f l i h = rw (add-one i, take-suc l i 0 h) (map-append f (take i l) (get_or l i 0 ∷ []))

-- P holds of all elements exactly if it does of those left
pub record Checked (P : ℕ → Type 0) (l : List ℕ) (i : ℕ) : Type 0 where
  pub whole : Every P (drop i l) → Every P l
  pub rest : Every P l → Every P (drop i l)

module _ (P : ℕ → Type 0) (l : List ℕ) where
  pub checked_none : Checked P l 0
  checked_none = record { whole = λ h. h; rest = λ h. h }

  pub checked_on : (i : ℕ) → i < length l → Checked P l i → P (get_or l i 0) → Checked P l (i + 1)
  unfolding Every
  checked_on i h c p =
      let e : drop i l ≡ get_or l i 0 ∷ drop (i + 1) l = drop_next l i 0 h in
      record {
        whole = λ (k : Every P (drop (i + 1) l)). c.whole (rw e (p, k));
        rest = λ k. let g : Every P (get_or l i 0 ∷ drop (i + 1) l) = rw e at (c.rest k) in g.1;
      }

  pub checked_not : (i : ℕ) → i < length l → Checked P l i → (P (get_or l i 0) → ⊥) → Every P l → ⊥
  unfolding Every
  checked_not i h c n k = let g : Every P (get_or l i 0 ∷ drop (i + 1) l) = rw (drop_next l i 0 h) at (c.rest k) in n g.0

  pub checked_all : (i : ℕ) → length l ≤ i → Checked P l i → Every P l
  unfolding Every
  checked_all i h c = c.whole (rw (drop_of_length-le l {i = i} h) tt)

-- Behind the first w elements of o stand k more, e, in o'.
pub record Copied (w k : ℕ) (e o o' : List ℕ) : Type 0 where
  pub same : length o' ≡ length o
  pub cells : take (w + k) o' ≡ take w o ++ e

pub copied_none : (w : ℕ) (o : List ℕ) → Copied w 0 [] o o
copied_none w o = let z : w + 0 ≡ w = omega arith in record { same = refl; cells = rw (z, append-nil (take w o)) }

pub copied_next : (w k q v : ℕ) (e e' o o' : List ℕ) → Copied w k e o o' → w + k < length o → q ≡ w + k → e' ≡ e ++ (v ∷ []) → Copied w (k + 1) e' o (set o' q v)
copied_next w k q v e e' o o' c h hq he =
    let z : w + (k + 1) ≡ suc (w + k) = omega arith in
    record {
      same = length-set o' q v ∙ c.same;
      cells = rw (z, hq, he, take-suc-set o' (w + k) v (omega (arith, c.same)), c.cells) (append_assoc (take w o) e (v ∷ []));
    }

pub copied_kept : (w k : ℕ) (e o o' : List ℕ) → w ≤ length o → Copied w k e o o' → Kept w o o'
copied_kept w k e o o' h c =
    record {
      same = c.same;
      before = sym (take-take w (w + k) o' (omega arith)) ∙ (ap (take w) c.cells ∙ take_at (take w o) e w (length-take-le w o h));
    }

pub first_set : (o : List ℕ) (v : ℕ) → 0 < length o → take 1 (set o 0 v) ≡ v ∷ []
first_set [] v h = absurd (omega arith)
first_set (a ∷ o) v h = refl
