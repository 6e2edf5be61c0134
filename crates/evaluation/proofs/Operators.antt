-- Operators: which answers of the code are theirs.
use mir.Val.{bool_byte}
use mathlib.Core.Path.{◌≡◌, refl}
use mathlib.Core.Bool.{Bool, true, false}
use Prim.Native.Nat.{ℕ, zero, suc, ◌-◌, ◌≤◌}
use native.Mathlib.Omega.{arith}
use lib.Dec.{eqb}
use borrow.Author.Tests.{ne_eqb}
use Rattle.theory.specs.OperatorValues.{not_of, and_of, or_of, same_of}
use Rattle.evaluation.specs.Run.{pick, operator_code, operator_count, operator_worth}

-- HOW MANY VALUES

module _ (n : ℕ) where
  pub count_not : n ≡ 0x60 → 1 ≡ operator_count (n - operator_code)
  unfolding operator_count
  count_not h = let z : n - operator_code ≡ 0 = omega arith in rw z refl

  pub count_equal : n ≡ 0x61 → 3 ≡ operator_count (n - operator_code)
  unfolding operator_count
  count_equal h = let z : n - operator_code ≡ 1 = omega arith in rw z refl

  pub count_other : operator_code ≤ n → ¬ (n ≡ 0x60) → ¬ (n ≡ 0x61) → 2 ≡ operator_count (n - operator_code)
  unfolding operator_count
  count_other l h k = go (n - operator_code) refl
    where
      go : (m : ℕ) → n - operator_code ≡ m → 2 ≡ operator_count m
      go zero e = absurd (h (omega arith))
      go (suc zero) e = absurd (k (omega arith))
      go (suc (suc m)) e = refl

-- WHAT THEY ARE WORTH

module _ (n x y z r : ℕ) where
  pub worth_not : n ≡ 0x60 → r ≡ not_of x → r ≡ operator_worth (n - operator_code) x y z
  unfolding operator_worth
  worth_not h e = let m : n - operator_code ≡ 0 = omega arith in rw m e

  pub worth_equal : n ≡ 0x61 → r ≡ same_of y z → r ≡ operator_worth (n - operator_code) x y z
  unfolding operator_worth
  worth_equal h e = let m : n - operator_code ≡ 1 = omega arith in rw m e

  pub worth_and : n ≡ 0x62 → r ≡ and_of x y → r ≡ operator_worth (n - operator_code) x y z
  unfolding operator_worth
  worth_and h e = let m : n - operator_code ≡ 2 = omega arith in rw m e

  pub worth_or : operator_code ≤ n → ¬ (n ≡ 0x60) → ¬ (n ≡ 0x61) → ¬ (n ≡ 0x62) → r ≡ or_of x y → r ≡ operator_worth (n - operator_code) x y z
  unfolding operator_worth
  worth_or l h k j e = go (n - operator_code) refl
    where
      go : (m : ℕ) → n - operator_code ≡ m → r ≡ operator_worth m x y z
      go zero q = absurd (h (omega arith))
      go (suc zero) q = absurd (k (omega arith))
      go (suc (suc zero)) q = absurd (j (omega arith))
      go (suc (suc (suc m))) q = e

-- BY A TEST OF THE FIRST, OR OF BOTH

pub not_by : (x : ℕ) → bool_byte (eqb x 0) ≡ not_of x
unfolding not_of
not_by zero = refl
not_by (suc x) = rw (ne_eqb (suc x) 0 (λ h. omega arith)) refl

pub same_by : (x y : ℕ) → bool_byte (eqb x y) ≡ same_of x y
unfolding same_of
same_by x y = go (eqb x y)
  where
    go : (b : Bool) → bool_byte b ≡ elim b as (λ x. ℕ) [ true ↦ 1 | false ↦ 0 ]
    go true = refl
    go false = refl

pub and_no : (x y : ℕ) → x ≡ 0 → 0 ≡ and_of x y
unfolding and_of
and_no x y h = rw h refl

pub and_yes : (x y : ℕ) → ¬ (x ≡ 0) → y ≡ and_of x y
unfolding and_of
and_yes zero y h = absurd (h refl)
and_yes (suc x) y h = refl

pub or_no : (x y : ℕ) → x ≡ 0 → y ≡ or_of x y
unfolding or_of
or_no x y h = rw h refl

pub or_yes : (x y : ℕ) → ¬ (x ≡ 0) → 1 ≡ or_of x y
unfolding or_of
or_yes zero y h = absurd (h refl)
or_yes (suc x) y h = refl
