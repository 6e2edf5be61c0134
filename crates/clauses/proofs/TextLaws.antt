-- Texts of lists: what stands first, and what is left behind it.
use mathlib.Core.Path.{◌≡◌, refl, sym, ap, ◌∙◌}
use mathlib.Core.List.{List, [], ◌∷◌, ◌++◌, map, append-nil}
use mathlib.Core.Bool.{Bool, true, false}
use Prim.Native.Nat.{ℕ, zero, suc, ◌+◌, ◌≤◌, ◌<◌}
use native.Mathlib.Omega.{arith}
use lib.Dec.{ltb}
use lib.ListN.{length, get_or, drop, drop_of_length-le}
use borrow.Author.Tests.{ltb-true, ltb-false}
use Rattle.pcrl.specs.Text.{bytes}
use Rattle.pcrl.specs.Reader.{all}
use Rattle.pcrl.specs.Sheet.{Data, Sig}
use Rattle.pcrl.specs.Table.{Summand}
use Rattle.laws.specs.Places.{drop_next}
use Rattle.rendering.specs.Texts.{joined_text, open_text, close_text, condition_text, first_text, second_text, before_text, behind_text, sum_text, sums_text, summand_text, right_text}
use Rattle.opening.specs.Opened.{no_cond}
use Rattle.texts.specs.Wrote.{Wrote}
use Rattle.clauses.specs.Written.{Marks}
use Rattle.clauses.proofs.Upto.{wrote_by}

pub drop_none : {A : Type 0} (xs : List A) (i : ℕ) → length xs ≤ i → drop i xs ≡ []
drop_none xs i h = drop_of_length-le xs {i = i} h

pub all_here : {A : Type 0} (w : A → List ℕ) (xs : List A) (i : ℕ) (a : A) → i < length xs → all w (drop i xs) ≡ w (get_or xs i a) ++ all w (drop (i + 1) xs)
unfolding all
all_here w xs i a h = ap (all w) (drop_next xs i a h)

pub all_none : {A : Type 0} (w : A → List ℕ) (xs : List A) (i : ℕ) → length xs ≤ i → all w (drop i xs) ≡ []
unfolding all
all_none w xs i h = ap (all w) (drop_none xs i h)

-- the mark before what is left, if anything is
unfoldable pub mark_text : {A : Type 0} → List ℕ → List A → List ℕ
mark_text m [] = []
mark_text m (x ∷ xs) = m

mark_here : {A : Type 0} (m : List ℕ) (xs : List A) (i : ℕ) (a : A) → i < length xs → mark_text m (drop i xs) ≡ m
unfolding mark_text
mark_here m xs i a h = ap (mark_text m) (drop_next xs i a h)

mark_none : {A : Type 0} (m : List ℕ) (xs : List A) (i : ℕ) → length xs ≤ i → mark_text m (drop i xs) ≡ []
unfolding mark_text
mark_none m xs i h = ap (mark_text m) (drop_none xs i h)

-- it is written
pub marks_put : {A : Type 0} (xs : List A) (a : A) (out : List ℕ) (at b i n : ℕ) (out' : List ℕ) (r : ℕ) → n ≡ length xs → Marks out at b i n out' r → Wrote out at (mark_text (b ∷ []) (drop i xs)) out' r
marks_put xs a out at b i n out' r e m = go (ltb i n) refl
  where
    go : (t : Bool) → ltb i n ≡ t → Wrote out at (mark_text (b ∷ []) (drop i xs)) out' r
    go true q = let k = ltb-true i n q in wrote_by (sym (mark_here (b ∷ []) xs i a (omega arith))) (m.below k)
    go false q = let k = ltb-false i n q in wrote_by (sym (mark_none (b ∷ []) xs i (omega arith))) (m.past k)

-- joined texts: the first, a mark if another follows, and the others
joined_step : {A : Type 0} (m : List ℕ) (f : A → List ℕ) (x : A) (xs : List A) → joined_text m (map f (x ∷ xs)) ≡ f x ++ (mark_text m xs ++ joined_text m (map f xs))
unfolding joined_text mark_text
joined_step m f x [] = sym (append-nil (f x))
joined_step m f x (y ∷ ys) = refl

pub joined_first : {A : Type 0} (m : List ℕ) (f : A → List ℕ) (xs : List A) (i : ℕ) (a : A) → i < length xs → joined_text m (map f (drop i xs)) ≡ f (get_or xs i a) ++ (mark_text m (drop (i + 1) xs) ++ joined_text m (map f (drop (i + 1) xs)))
joined_first m f xs i a h = ap (λ l. joined_text m (map f l)) (drop_next xs i a h) ∙ joined_step m f (get_or xs i a) (drop (i + 1) xs)

pub joined_none : {A : Type 0} (m : List ℕ) (f : A → List ℕ) (xs : List A) (i : ℕ) → length xs ≤ i → joined_text m (map f (drop i xs)) ≡ []
unfolding joined_text
joined_none m f xs i h = ap (λ l. joined_text m (map f l)) (drop_none xs i h)

-- brackets inside a condition are such marks
open_is : {A : Type 0} (xs : List A) → open_text xs ≡ mark_text (bytes "(") xs
unfolding open_text mark_text
open_is [] = refl
open_is (x ∷ xs) = refl

close_is : {A : Type 0} (xs : List A) → close_text xs ≡ mark_text (bytes ")") xs
unfolding close_text mark_text
close_is [] = refl
close_is (x ∷ xs) = refl

module _ (S : Sig) where
  pub sums_first : (n : ℕ) (vars : List ℕ) (i : ℕ) → i < length vars → sums_text S (n + i) (drop i vars) ≡ sum_text S (n + i) (get_or vars i 0) ++ sums_text S (n + (i + 1)) (drop (i + 1) vars)
  unfolding sums_text
  sums_first n vars i h =
      let z : suc (n + i) ≡ n + (i + 1) = omega arith in
      ap (sums_text S (n + i)) (drop_next vars i 0 h) ∙ ap (λ (k : ℕ). sum_text S (n + i) (get_or vars i 0) ++ sums_text S k (drop (i + 1) vars)) z

  pub sums_none : (n : ℕ) (vars : List ℕ) (i : ℕ) → length vars ≤ i → sums_text S (n + i) (drop i vars) ≡ []
  unfolding sums_text
  sums_none n vars i h = ap (sums_text S (n + i)) (drop_none vars i h)

  -- a condition of which nothing stands on one side, and one that stands there whole
  pub first_none : (c : ℕ × Data) → (c.0 ≡ 0 → ⊥) → first_text S c ≡ []
  unfolding first_text
  first_none (zero, d) h = absurd (h refl)
  first_none (suc w, d) h = refl

  pub first_whole : (c : ℕ × Data) → c.0 ≡ 0 → first_text S c ≡ bytes "delta" ++ condition_text S c.1
  unfolding first_text
  first_whole (zero, d) h = refl
  first_whole (suc w, d) h = absurd (omega arith)

  pub second_none : (c : ℕ × Data) → c.0 ≡ 0 → second_text S c ≡ []
  unfolding second_text
  second_none (zero, d) h = refl
  second_none (suc w, d) h = absurd (omega arith)

  pub second_whole : (c : ℕ × Data) → (c.0 ≡ 0 → ⊥) → second_text S c ≡ condition_text S c.1 ++ bytes "delta"
  unfolding second_text
  second_whole (zero, d) h = absurd (h refl)
  second_whole (suc w, d) h = refl

  pub before_first : (cs : List (ℕ × Data)) (i : ℕ) → i < length cs → before_text S (drop i cs) ≡ first_text S (get_or cs i no_cond) ++ (mark_text (bytes "(") (drop (i + 1) cs) ++ before_text S (drop (i + 1) cs))
  unfolding before_text
  before_first cs i h = ap (before_text S) (drop_next cs i no_cond h) ∙ ap (λ (t : List ℕ). first_text S (get_or cs i no_cond) ++ (t ++ before_text S (drop (i + 1) cs))) (open_is (drop (i + 1) cs))

  pub before_none : (cs : List (ℕ × Data)) (i : ℕ) → length cs ≤ i → before_text S (drop i cs) ≡ []
  unfolding before_text
  before_none cs i h = ap (before_text S) (drop_none cs i h)

  pub behind_first : (cs : List (ℕ × Data)) (i : ℕ) → i < length cs → behind_text S (drop i cs) ≡ behind_text S (drop (i + 1) cs) ++ (mark_text (bytes ")") (drop (i + 1) cs) ++ second_text S (get_or cs i no_cond))
  unfolding behind_text
  behind_first cs i h = ap (behind_text S) (drop_next cs i no_cond h) ∙ ap (λ (t : List ℕ). behind_text S (drop (i + 1) cs) ++ (t ++ second_text S (get_or cs i no_cond))) (close_is (drop (i + 1) cs))

  pub behind_none : (cs : List (ℕ × Data)) (i : ℕ) → length cs ≤ i → behind_text S (drop i cs) ≡ []
  unfolding behind_text
  behind_none cs i h = ap (behind_text S) (drop_none cs i h)

  -- no summand, and some
  pub right_none : (n : ℕ) (hs : List Summand) → length hs ≡ 0 → right_text S n hs ≡ bytes "delta"
  unfolding right_text
  right_none n [] e = refl
  right_none n (h ∷ hs) e = absurd (omega arith)

  pub right_some : (n : ℕ) (hs : List Summand) → 0 < length hs → right_text S n hs ≡ joined_text (bytes "+") (map (summand_text S n) hs)
  unfolding right_text
  right_some n [] e = absurd (omega arith)
  right_some n (h ∷ hs) e = refl
