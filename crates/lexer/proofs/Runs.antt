-- Laws of `run` at a place of a list, and the tests of bytes as classes.
use mathlib.Core.Path.{◌≡◌, refl, sym, ap, ap₂, subst}
use mathlib.Core.Logic.{◌⊎◌, inl, inr, ⊎_elim}
use mathlib.Core.Bool.{Bool, true, false}
use mathlib.Core.List.{List, [], ◌∷◌}
use Prim.Native.Nat.{ℕ, zero, suc, ◌+◌, ◌-◌, ◌<◌, ◌≤◌}
use native.Mathlib.Numerals.{add-one}
use native.Mathlib.Omega.{arith}
use lib.Dec.{eqb}
use lib.ListN.{length, drop, get_or, drop_of_length-le, length-drop}
use lib.Seq.{drop-cons, length-take-le}
use borrow.Author.Tests.{le-leb, lt-leb, eqb-true, ne_eqb}
use Rattle.pcrl.specs.Text.{byte}
use Rattle.pcrl.specs.Tests.{or, within}
use Rattle.pcrl.specs.Bytes.{separator, letter, digit, name_byte}
use Rattle.pcrl.specs.Tokens.{run, front}
use Rattle.lexer.specs.Classes.{class_by, class_of, in_classes, alone, leads}

pub drop_at : (s : List ℕ) (i : ℕ) → i < length s → drop i s ≡ get_or s i 0 ∷ drop (i + 1) s
drop_at s i h = rw (add-one i) (drop-cons s i 0 h)

-- ---- the run of a list at a place, by the byte that stands there
module _ (test : ℕ → Bool) (s : List ℕ) (i : ℕ) where
  pub run_end : length s ≤ i → run test (drop i s) ≡ 0
  unfolding run
  run_end h = rw (drop_of_length-le s h)

  pub run_more : i < length s → test (get_or s i 0) ≡ true → run test (drop i s) ≡ suc (run test (drop (i + 1) s))
  unfolding run
  run_more h e = rw (drop_at s i h, e, run)

  pub run_stop : i < length s → test (get_or s i 0) ≡ false → run test (drop i s) ≡ 0
  unfolding run
  run_stop h e = rw (drop_at s i h, e, run)

-- a row of bytes that pass
pub run_row : (test : ℕ → Bool) (s : List ℕ) (i n : ℕ) → i + n ≤ length s → ((k : ℕ) → k < i + n → i ≤ k → test (get_or s k 0) ≡ true)
    → i + n + run test (drop (i + n) s) ≡ i + run test (drop i s)
run_row test s i zero h f = let q : i + 0 ≡ i = omega arith in ap (λ (j : ℕ). j + run test (drop j s)) q
run_row test s i (suc n) h f =
    let m = run_more test s (i + n) (omega arith) (f (i + n) (omega arith) (omega arith)) in
    let r = run_row test s i n (omega arith) (λ k l g. f k (omega arith) g) in
    let q : i + n + 1 ≡ i + suc n = omega arith in
    omega (arith, ap (λ (j : ℕ). run test (drop j s)) q)

module _ (lo hi k : ℕ) where
  pub within_low : k < lo → within lo hi k ≡ false
  within_low h = rw (lt-leb _ _ h)

  pub within_high : lo ≤ k → hi < k → within lo hi k ≡ false
  within_high l h = rw (le-leb _ _ l, lt-leb _ _ h)

  pub within_both : lo ≤ k → k ≤ hi → within lo hi k ≡ true
  within_both l h = rw (le-leb _ _ l, le-leb _ _ h)

-- ---- a run is no longer than its list
run_le_step : (t : Bool) (k n : ℕ) → k ≤ n → (elim t as (λ _. ℕ) [ true ↦ suc k | false ↦ 0 ]) ≤ suc n
run_le_step true k n h = omega arith
run_le_step false k n h = omega arith

pub run_le : (test : ℕ → Bool) (l : List ℕ) → run test l ≤ length l
unfolding run
run_le test [] = omega arith
run_le test (b ∷ l) = run_le_step (test b) (run test l) (length l) (run_le test l)

pub run_fits : (test : ℕ → Bool) (s : List ℕ) (i : ℕ) → run test (drop i s) ≤ length s - i
run_fits test s i = rw length-drop at (run_le test (drop i s))

pub length_front : (test : ℕ → Bool) (l : List ℕ) → length (front test l) ≡ run test l
length_front test l = length-take-le (run test l) l (run_le test l)

-- two tests that agree have one run
run_same_step : (t u : Bool) (k m : ℕ) → t ≡ u → k ≡ m
    → ◌≡◌ {A = ℕ} (elim t as (λ _. ℕ) [ true ↦ suc k | false ↦ 0 ]) (elim u as (λ _. ℕ) [ true ↦ suc m | false ↦ 0 ])
run_same_step t u k m e f = ap₂ (λ (x : Bool) (y : ℕ). elim x as (λ _. ℕ) [ true ↦ suc y | false ↦ 0 ]) e f

pub run_same : (f g : ℕ → Bool) → ((b : ℕ) → f b ≡ g b) → (l : List ℕ) → run f l ≡ run g l
unfolding run
run_same f g h [] = refl
run_same f g h (b ∷ l) = run_same_step (f b) (g b) (run f l) (run g l) (h b) (run_same f g h l)

-- ---- classes and tests
or_left : (a b : Bool) → or a b ≡ true → (a ≡ true) ⊎ (b ≡ true)
or_left true b e = inl refl
or_left false b e = inr e

-- a separator is one of two bytes, so that what holds of both holds of it
of_separator : (P : ℕ → Type 0) → P 0x20 → P 0x0A → (b : ℕ) → separator b ≡ true → P b
of_separator P p q b e =
    ⊎_elim (λ h. subst P (sym (eqb-true b 0x20 h)) p) (λ h. subst P (sym (eqb-true b 0x0A h)) q) (or_left (eqb b 0x20) (eqb b 0x0A) e)

pub no_separator : (b : ℕ) → (b ≡ 0x20 → ⊥) → (b ≡ 0x0A → ⊥) → separator b ≡ false
no_separator b n m = rw (ne_eqb _ _ n, ne_eqb _ _ m)

-- what a test of the class says, by the first test that passes
digits : (d l u a p : Bool) → within 2 2 (class_by false d l u a p) ≡ d
digits true l u a p = refl
digits false true u a p = refl
digits false false true a p = refl
digits false false false true p = refl
digits false false false false true = refl
digits false false false false false = refl

name_bytes : (d l u a p : Bool) → within 2 4 (class_by false d l u a p) ≡ or l (or d u)
name_bytes true true u a p = refl
name_bytes true false u a p = refl
name_bytes false true u a p = refl
name_bytes false false true a p = refl
name_bytes false false false true p = refl
name_bytes false false false false true = refl
name_bytes false false false false false = refl

by_separator : (P : ℕ → Type 0) (b : ℕ) → P 0x20 → P 0x0A → (separator b ≡ false → P b) → P b
by_separator P b p q r = go (separator b) refl
  where
    go : (t : Bool) → separator b ≡ t → P b
    go true e = of_separator P p q b e
    go false e = r e

pub is_digit : (b : ℕ) → in_classes 2 2 b ≡ digit b
unfolding class_of
is_digit b = by_separator (λ k. in_classes 2 2 k ≡ digit k) b refl refl (λ e. rw (e) (digits (digit b) (letter b) (eqb b (byte "_")) (alone b) (leads b)))

pub is_name_byte : (b : ℕ) → in_classes 2 4 b ≡ name_byte b
unfolding class_of
is_name_byte b = by_separator (λ k. in_classes 2 4 k ≡ name_byte k) b refl refl (λ e. rw (e) (name_bytes (digit b) (letter b) (eqb b (byte "_")) (alone b) (leads b)))
