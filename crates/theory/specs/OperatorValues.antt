-- What operators are worth, by a test in place of their tables.
use Rattle.std.specs.Prelude.{◌≡◌, [], ◌∷◌, true, false, eqb}
use Rattle.std.proofs.Math.Path.{refl, ap}
use Rattle.std.proofs.Common.{◌∙◌}
use Prim.Native.Nat.{ℕ, zero, suc, ◌+◌, ◌*◌, ◌/◌, ◌%◌, ◌<◌}
use Rattle.std.proofs.Math.Nat.{mul-le-mul_right, mul-add-div_right, div-eq_of_lt, mul-add-mod_self_right, mod-eq_of_lt}
use native.Mathlib.Omega.{arith}
use Rattle.pcrl.specs.Sheet.{Sig, not_number, and_number, or_number, first_equal, operator, operation, size, same_at, function, function_at}
use Rattle.pcrl.specs.Values.{place, apply}
use Rattle.laws.specs.Lists.{get_d_tabulate}
use Rattle.laws.specs.Operations.{equal_number}

unfoldable pub not_of : ℕ → ℕ
not_of zero = 1
not_of (suc x) = 0

unfoldable pub and_of : ℕ → ℕ → ℕ
and_of zero y = 0
and_of (suc x) y = y

unfoldable pub or_of : ℕ → ℕ → ℕ
or_of zero y = y
or_of (suc x) y = 1

unfoldable pub same_of : ℕ → ℕ → ℕ
same_of x y = elim (eqb x y) [ true ↦ 1 | false ↦ 0 ]

module _ (S : Sig) where
  module _ (two : size S 0 ≡ 2) where
    pub apply_not : (x : ℕ) → x < 2 → apply S not_number (x ∷ []) ≡ not_of x
    unfolding apply function_at function operation operator place not_of
    apply_not zero h = rw two refl
    apply_not (suc zero) h = rw two refl
    apply_not (suc (suc x)) h = absurd (omega arith)

    pub apply_and : (x y : ℕ) → x < 2 → y < 2 → apply S and_number (x ∷ y ∷ []) ≡ and_of x y
    unfolding apply function_at function operation operator place and_of
    apply_and zero zero h k = rw two refl
    apply_and zero (suc zero) h k = rw two refl
    apply_and zero (suc (suc y)) h k = absurd (omega arith)
    apply_and (suc zero) zero h k = rw two refl
    apply_and (suc zero) (suc zero) h k = rw two refl
    apply_and (suc zero) (suc (suc y)) h k = absurd (omega arith)
    apply_and (suc (suc x)) y h k = absurd (omega arith)

    pub apply_or : (x y : ℕ) → x < 2 → y < 2 → apply S or_number (x ∷ y ∷ []) ≡ or_of x y
    unfolding apply function_at function operation operator place or_of
    apply_or zero zero h k = rw two refl
    apply_or zero (suc zero) h k = rw two refl
    apply_or zero (suc (suc y)) h k = absurd (omega arith)
    apply_or (suc zero) zero h k = rw two refl
    apply_or (suc zero) (suc zero) h k = rw two refl
    apply_or (suc zero) (suc (suc y)) h k = absurd (omega arith)
    apply_or (suc (suc x)) y h k = absurd (omega arith)

  pub apply_equal : (D x y : ℕ) → x < size S D → y < size S D → apply S (first_equal + D) (x ∷ y ∷ []) ≡ same_of x y
  unfolding apply function_at function place same_at same_of
  apply_equal D x y h k =
      let n = size S D in
      let p : 0 < n = omega arith in
      let i : (0 * n + x) * n + y ≡ x * n + y = let z : 0 * n + x ≡ x = omega arith in ap (λ (w : ℕ). w * n + y) z in
      let l : x * n + y < n * n = omega (arith, mul-le-mul_right n h) in
      let q : (x * n + y) / n ≡ x = let z : x + 0 ≡ x = omega arith in mul-add-div_right p x y ∙ ap (λ (w : ℕ). x + w) (div-eq_of_lt k) ∙ z in
      let r : (x * n + y) % n ≡ y = mul-add-mod_self_right x n y ∙ mod-eq_of_lt k in
      rw (equal_number D) (rw (i, get_d_tabulate (n * n) (same_at S n) (x * n + y) 0 l, same_at, q, r) refl)
