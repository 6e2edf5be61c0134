-- The values of functions, written ones and operators, by the tests that the code makes.
use mathlib.Core.Path.{◌≡◌, refl, sym, ap, ◌∙◌}
use mathlib.Core.List.{List}
use mathlib.Core.Bool.{Bool, true, false}
use Prim.Native.Nat.{ℕ, zero, suc, ◌+◌, ◌*◌, ◌≤◌, ◌<◌}
use native.Mathlib.Omega.{arith}
use borrow.Author.Tests.{lt-ltb, le-ltb, eq-eqb, ne_eqb}
use lib.Dec.{eqb, ltb}
use Rattle.pcrl.specs.Sheet.{not_number, and_number, first_equal}
use Rattle.theory.specs.OperatorValues.{not_of, and_of, or_of, same_of}
use Rattle.initial.specs.Symbols.{looked_at, second_size, operated, one_value, two_value}

-- by a test whose answer is known
pub chosen : {A : Type 0} (b : Bool) (a c : A) → b ≡ true → (elim b as (λ x. A) [ true ↦ a | false ↦ c ]) ≡ a
chosen true a c e = refl
chosen false a c e = absurd (let z : ◌≡◌ {A = ℕ} 0 1 = cc in omega arith)

pub passed : {A : Type 0} (b : Bool) (a c : A) → b ≡ false → (elim b as (λ x. A) [ true ↦ a | false ↦ c ]) ≡ c
passed true a c e = absurd (let z : ◌≡◌ {A = ℕ} 0 1 = cc in omega arith)
passed false a c e = refl

-- ONE ARGUMENT
module _ (values places : List ℕ) (f x : ℕ) where
  pub one_written : f < not_number → one_value values places f x ≡ looked_at values places f x
  unfolding one_value
  one_written h = chosen (ltb f not_number) _ _ (lt-ltb f not_number h)

  pub one_operator : not_number ≤ f → one_value values places f x ≡ not_of x
  unfolding one_value
  one_operator h = passed (ltb f not_number) _ _ (le-ltb f not_number h)

  pub one_zero : not_number ≤ f → x ≡ 0 → 1 ≡ one_value values places f x
  unfolding not_of
  one_zero h e = sym (one_operator h ∙ ap not_of e)

  pub one_more : not_number ≤ f → (x ≡ 0 → ⊥) → 0 ≡ one_value values places f x
  one_more h n = sym (one_operator h ∙ go x n)
    where
      go : (y : ℕ) → (y ≡ 0 → ⊥) → not_of y ≡ 0
      go zero m = absurd (m refl)
      go (suc y) m = unfold not_of in refl

-- TWO OPERANDS
module _ (f x y : ℕ) where
  pub by_equal : first_equal ≤ f → operated f x y ≡ same_of x y
  unfolding operated
  by_equal h = passed (ltb f first_equal) _ _ (le-ltb f first_equal h)

  pub by_and : f ≡ and_number → operated f x y ≡ and_of x y
  unfolding operated
  by_and e = chosen (ltb f first_equal) _ _ (lt-ltb f first_equal (omega arith)) ∙ chosen (eqb f and_number) _ _ (eq-eqb f and_number e)

  pub by_or : f < first_equal → (f ≡ and_number → ⊥) → operated f x y ≡ or_of x y
  unfolding operated
  by_or h n = chosen (ltb f first_equal) _ _ (lt-ltb f first_equal h) ∙ passed (eqb f and_number) _ _ (ne_eqb f and_number n)

  pub equal_same : first_equal ≤ f → x ≡ y → 1 ≡ operated f x y
  unfolding same_of
  equal_same h e = sym (by_equal h ∙ chosen (eqb x y) _ _ (eq-eqb x y e))

  pub equal_other : first_equal ≤ f → (x ≡ y → ⊥) → 0 ≡ operated f x y
  unfolding same_of
  equal_other h n = sym (by_equal h ∙ passed (eqb x y) _ _ (ne_eqb x y n))

  pub and_zero : f ≡ and_number → x ≡ 0 → 0 ≡ operated f x y
  unfolding and_of
  and_zero e z = sym (by_and e ∙ ap (λ (w : ℕ). and_of w y) z)

  pub and_more : f ≡ and_number → (x ≡ 0 → ⊥) → y ≡ operated f x y
  and_more e n = sym (by_and e ∙ go x n)
    where
      go : (w : ℕ) → (w ≡ 0 → ⊥) → and_of w y ≡ y
      go zero m = absurd (m refl)
      go (suc w) m = unfold and_of in refl

  pub or_zero : f < first_equal → (f ≡ and_number → ⊥) → x ≡ 0 → y ≡ operated f x y
  unfolding or_of
  or_zero h n z = sym (by_or h n ∙ ap (λ (w : ℕ). or_of w y) z)

  pub or_more : f < first_equal → (f ≡ and_number → ⊥) → (x ≡ 0 → ⊥) → 1 ≡ operated f x y
  or_more h n k = sym (by_or h n ∙ go x k)
    where
      go : (w : ℕ) → (w ≡ 0 → ⊥) → or_of w y ≡ 1
      go zero m = absurd (m refl)
      go (suc w) m = unfold or_of in refl

module _ (sizes funcs values places : List ℕ) (f x y : ℕ) where
  pub two_written : f < not_number → two_value sizes funcs values places f x y ≡ looked_at values places f (x * second_size sizes funcs f + y)
  unfolding two_value
  two_written h = chosen (ltb f not_number) _ _ (lt-ltb f not_number h)

  pub two_operated : not_number ≤ f → two_value sizes funcs values places f x y ≡ operated f x y
  unfolding two_value
  two_operated h = passed (ltb f not_number) _ _ (le-ltb f not_number h)
