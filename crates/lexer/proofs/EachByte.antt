-- Tests of bytes by indices: every byte of a block passes, or one does not; and question 2, every byte is printable.
use mathlib.Core.Path.{◌≡◌, subst, sym, ap, ◌∙◌}
use mathlib.Core.Bool.{Bool, true, false}
use mathlib.Core.List.{List, ◌++◌}
use Prim.Native.Nat.{ℕ, ◌+◌, ◌-◌, ◌<◌, ◌≤◌}
use native.Mathlib.Omega.{arith}
use lib.Dec.{T}
use lib.ListN.{length, take, drop, get_or, length-take, length-drop}
use lib.Seq.{get_or-take, get_or-drop}
use borrow.Author.Count.{below_more}
use Rattle.pcrl.specs.Tests.{and, Every}
use Rattle.pcrl.specs.Bytes.{printable, Printable}
use Rattle.laws.specs.Booleans.{false_not_true}
use Rattle.laws.specs.Every.{every_at, at_every, every_append, every_left, every_right}
use Rattle.laws.specs.Says.{Says}
use Rattle.laws.specs.Tests.{is_true}

abbrev Passes : (ℕ → Bool) → List ℕ → ℕ → Type 0
Passes test s k = test (get_or s k 0) ≡ true

-- each of the first n bytes passes the test
abbrev pub First : (ℕ → Bool) → List ℕ → ℕ → Type 0
First test s n = (k : ℕ) → k < n → Passes test s k

-- one byte more
pub says_more : (test : ℕ → Bool) (s : List ℕ) (i : ℕ) (g t : Bool) → t ≡ test (get_or s i 0) → Says g (First test s i) → Says (and g t) (First test s (i + 1))
says_more test s i true true e f = below_more (λ k. Passes test s k) i f (sym e)
says_more test s i true false e f = λ g. let z : false ≡ true = e ∙ g i (omega arith) in false_not_true z
says_more test s i false t e n = λ g. n (λ k l. g k (omega arith))

-- each byte of a part passes, so each from its first place on and before its end does
pub in_part : (test : ℕ → Bool) (s : List ℕ) (a e : ℕ) → e ≤ length s → First test (take (e - a) (drop a s)) (length (take (e - a) (drop a s))) → (k : ℕ) → k < e → a ≤ k → Passes test s k
in_part test s a e h f k l m =
    let w : length (take (e - a) (drop a s)) ≡ e - a = omega (arith, length-take (e - a) (drop a s), length-drop a s) in
    let q : get_or (take (e - a) (drop a s)) (k - a) 0 ≡ get_or s k 0
    = get_or-take (e - a) (drop a s) (k - a) 0 (omega arith) ∙ get_or-drop a s (k - a) 0 ∙ (let z : a + (k - a) ≡ k = omega arith in ap (λ (j : ℕ). get_or s j 0) z) in
    subst (λ (b : ℕ). test b ≡ true) q (f (k - a) (omega arith))

pub all_printable : (s : List ℕ) (n : ℕ) → length s ≤ n → ((i : ℕ) → i < n → printable (get_or s i 0) ≡ true) → Printable s
unfolding Printable
all_printable s n h f = at_every (λ b. T (printable b)) s 0 (λ i k. subst T (sym (f i (omega arith))) tt)

pub each_printable : (s : List ℕ) (n : ℕ) → n ≤ length s → Printable s → First printable s n
unfolding Printable
each_printable s n h p = λ k l. is_true (printable (get_or s k 0)) (every_at (λ b. T (printable b)) s 0 k p (omega arith))

-- a list is printable where it is none, or its first part and the rest are
pub none_printable : (s : List ℕ) → length s ≡ 0 → Printable s
none_printable s e = all_printable s 0 (omega arith) (λ k h. absurd (omega arith))

module _ (s a b : List ℕ) (e : s ≡ a ++ b) where
  pub both_printable : Printable a → Printable b → Printable s
  unfolding Printable
  both_printable p q = subst (Every (λ x. T (printable x))) (sym e) (every_append (λ x. T (printable x)) a b p q)

  pub front_printable : Printable s → Printable a
  unfolding Printable
  front_printable p = every_left (λ x. T (printable x)) a b (subst (Every (λ x. T (printable x))) e p)

  pub back_printable : Printable s → Printable b
  unfolding Printable
  back_printable p = every_right (λ x. T (printable x)) a b (subst (Every (λ x. T (printable x))) e p)
