-- Numbers of one, two and three digits.
use mathlib.Core.Path.{◌≡◌, sym, ◌∙◌, ap}
use mathlib.Core.List.{List, [], ◌∷◌, ◌++◌}
use mathlib.Core.Bool.{Bool, true, false}
use Prim.Native.Nat.{ℕ, suc, ◌+◌, ◌-◌, ◌/◌, ◌%◌, ◌<◌, ◌≤◌}
use native.Mathlib.Omega.{arith}
use borrow.Author.Tests.{lt-ltb, le-ltb}
use Rattle.pcrl.specs.Text.{digits, decimal}

last_digit : (f n : ℕ) → n < 10 → digits (suc f) n ≡ (48 + n) ∷ []
unfolding digits
last_digit f n h = ap (λ (b : Bool). elim b as (λ x. List ℕ) [ true ↦ (48 + n) ∷ [] | false ↦ digits f (n / 10) ++ ((48 + n % 10) ∷ []) ]) (lt-ltb n 10 h)

more_digits : (f n : ℕ) → 10 ≤ n → digits (suc f) n ≡ digits f (n / 10) ++ ((48 + n % 10) ∷ [])
unfolding digits
more_digits f n h = ap (λ (b : Bool). elim b as (λ x. List ℕ) [ true ↦ (48 + n) ∷ [] | false ↦ digits f (n / 10) ++ ((48 + n % 10) ∷ []) ]) (le-ltb n 10 h)

pub one_digit : (n : ℕ) → n < 10 → (48 + n) ∷ [] ≡ decimal n
unfolding decimal
one_digit n h = sym (last_digit n n h)

pub two_digits : (n : ℕ) → 10 ≤ n → n < 100 → ((48 + n / 10) ∷ []) ++ ((48 + n % 10) ∷ []) ≡ decimal n
unfolding decimal
two_digits n h k =
    let e : n ≡ suc (n - 1) = omega arith in
    sym (more_digits n n h ∙ ap (λ (l : List ℕ). l ++ ((48 + n % 10) ∷ [])) (ap (λ (f : ℕ). digits f (n / 10)) e ∙ last_digit (n - 1) (n / 10) (omega arith)))

pub three_digits : (n : ℕ) → 100 ≤ n → n < 1000 → (((48 + n / 100) ∷ []) ++ ((48 + n / 10 % 10) ∷ [])) ++ ((48 + n % 10) ∷ []) ≡ decimal n
unfolding decimal
three_digits n h k =
    let e : n ≡ suc (suc (n - 2)) = omega arith in
    let q : n / 10 / 10 ≡ n / 100 = omega arith in
    sym (more_digits n n (omega arith) ∙ ap (λ (l : List ℕ). l ++ ((48 + n % 10) ∷ []))
    (ap (λ (f : ℕ). digits f (n / 10)) e ∙ more_digits (suc (n - 2)) (n / 10) (omega arith) ∙ ap (λ (l : List ℕ). l ++ ((48 + n / 10 % 10) ∷ [])) (last_digit (n - 2) (n / 10 / 10) (omega arith) ∙ ap (λ (x : ℕ). (48 + x) ∷ []) q)))
