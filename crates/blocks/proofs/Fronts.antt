-- Lists that are written over from the front on: stores, and parts that are lent and come back written.
use mathlib.Core.Path.{◌≡◌, refl, sym, ap, ◌∙◌}
use mathlib.Core.List.{List, [], ◌∷◌, ◌++◌, append_assoc}
use Prim.Native.Nat.{ℕ, suc, ◌+◌, ◌-◌, ◌*◌, ◌≤◌, ◌<◌}
use native.Mathlib.Numerals.{add-one}
use native.Mathlib.Omega.{arith}
use lib.ListN.{length, take, drop, get_or, set, length-append, length-drop}
use lib.Seq.{drop-cons, take-suc, set_at, length-take-le, take_at, drop_at, drop-drop}

-- STORES

-- one more element of l is copied over o
pub copied_more : (n : ℕ) (l o : List ℕ) → n < length l → n < length o → set (take n l ++ drop n o) n (get_or l n 0) ≡ take (n + 1) l ++ drop (n + 1) o
copied_more n l o hl ho =
    rw (drop-cons o n 0, add-one, take-suc l n 0)
    (set_at (take n l) (get_or o n 0) (drop (suc n) o) (get_or l n 0) n (length-take-le n l (omega arith)) ∙ sym (append_assoc (take n l) (get_or l n 0 ∷ []) (drop (suc n) o)))

-- every element of a list of two, or of four, is stored
pub two_list : (l : List ℕ) (a b : ℕ) → length l ≡ 2 → set (set l 0 a) 1 b ≡ a ∷ b ∷ []
two_list [] a b h = absurd (omega arith)
two_list (x ∷ []) a b h = absurd (omega arith)
two_list (x ∷ y ∷ []) a b h = refl
two_list (x ∷ y ∷ z ∷ l) a b h = absurd (omega arith)

pub four_list : (l : List ℕ) (a b c d : ℕ) → length l ≡ 4 → set (set (set (set l 0 a) 1 b) 2 c) 3 d ≡ a ∷ b ∷ c ∷ d ∷ []
four_list [] a b c d h = absurd (omega arith)
four_list (x ∷ []) a b c d h = absurd (omega arith)
four_list (x ∷ y ∷ []) a b c d h = absurd (omega arith)
four_list (x ∷ y ∷ z ∷ []) a b c d h = absurd (omega arith)
four_list (x ∷ y ∷ z ∷ w ∷ []) a b c d h = refl
four_list (x ∷ y ∷ z ∷ w ∷ v ∷ l) a b c d h = absurd (omega arith)

-- PARTS

-- ys is xs, written over from the front on: p is what stands there so far
abbrev pub Front : List ℕ → List ℕ → List ℕ → Type 0
Front xs p ys = ys ≡ p ++ drop (length p) xs

-- what a loan of the part from the end of p on leaves, where it came back as new
pub front_more : (xs p new ys : List ℕ) (a k : ℕ) → Front xs p ys → length p ≡ a → length new ≡ k → Front xs (p ++ new) (take a ys ++ (new ++ drop k (drop a ys)))
front_more xs p new ys a k e ea ek =
    rw (e, take_at p (drop (length p) xs) a ea, drop_at p (drop (length p) xs) a ea, ← ek, drop-drop (length new) (length p) xs, length-append p new) (sym (append_assoc p new (drop (length p + length new) xs)))

-- what is written over keeps its length
pub front_length : (xs p ys : List ℕ) → Front xs p ys → length p ≤ length xs → length ys ≡ length xs
front_length xs p ys e h = rw e (simp (length-append, length-drop) (omega arith))

-- the elements from place a on, k of them
pub length_part : (a k : ℕ) (l : List ℕ) → a + k ≤ length l → length (take k (drop a l)) ≡ k
length_part a k l h = length-take-le k (drop a l) (simp length-drop (omega arith))

-- part i of a list's parts of k elements, from place i * k to place i * k + k
abbrev pub cut : ℕ → ℕ → List ℕ → List ℕ
cut k i l = take (i * k + k - i * k) (drop (i * k) l)

pub cut_is : (k i : ℕ) (l : List ℕ) → cut k i l ≡ take k (drop (i * k) l)
cut_is k i l = let e : i * k + k - i * k ≡ k = omega arith in ap (λ (w : ℕ). take w (drop (i * k) l)) e

pub length_cut : (k i : ℕ) (l : List ℕ) → i * k + k ≤ length l → length (cut k i l) ≡ k
length_cut k i l h = rw (cut_is k i l) (length_part (i * k) k l h)
