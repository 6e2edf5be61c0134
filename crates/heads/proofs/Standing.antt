-- What is left falls: heads, then cells.
use mathlib.Core.Path.{◌≡◌, ap}
use mathlib.Core.Logic.{◌⊎◌, inl, inr}
use Prim.Native.Nat.{ℕ, suc, ◌+◌, ◌-◌, ◌*◌, ◌<◌, ◌≤◌}
use native.Mathlib.Omega.{arith}
use native.Mathlib.Nat.{mul-le-mul_right, suc-mul}

pub weigh : ℕ → ℕ → ℕ → ℕ
weigh l left at = left * (l + 1) + (l - at)

pub weigh_less : (l left left' at at' : ℕ) → at < l → (left' < left) ⊎ ((left' ≡ left) × (at < at')) → weigh l left' at' < weigh l left at
unfolding weigh
weigh_less l left left' at at' h (inl z) = let k : suc left' ≤ left = omega arith in let y : suc left' * (l + 1) ≤ left * (l + 1) = mul-le-mul_right (l + 1) k in omega (arith, y, suc-mul left' (l + 1))
weigh_less l left left' at at' h (inr (z, k)) = let y : left' * (l + 1) ≡ left * (l + 1) = ap (λ (x : ℕ). x * (l + 1)) z in omega arith

-- a side that stands further on than a place behind s
pub nearer : (left left' a b x y : ℕ) → a ≤ b → y ≡ x → (left' < left) ⊎ ((left' ≡ left) × (b < x)) → (left' < left) ⊎ ((left' ≡ left) × (a < y))
nearer left left' a b x y h e (inl z) = inl z
nearer left left' a b x y h e (inr (z, k)) = inr (z, omega (arith, e))
