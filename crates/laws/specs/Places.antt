-- What stands at a place of a list, and numbers that are compared.
use Rattle.std.specs.Prelude.{◌≡◌, refl, List, [], ◌∷◌, ◌⊎◌, ℕ, zero, suc, ◌+◌, ◌*◌, ◌<◌, ◌≤◌, length, get_or, take, drop, replicate}
use Rattle.std.proofs.Common.{inl, inr, mul-le-mul, add-one, arith, drop-cons}
use Rattle.std.proofs.Math.Decide.{dec_lt}
use Rattle.std.proofs.Math.ListN.{get_or-eq_default}

pub two_elements : (l : List ℕ) → length l ≡ 2 → l ≡ get_or l 0 0 ∷ get_or l 1 0 ∷ []
two_elements [] h = absurd (omega arith)
two_elements (a ∷ []) h = absurd (omega arith)
two_elements (a ∷ b ∷ []) h = refl
two_elements (a ∷ b ∷ c ∷ l) h = absurd (omega arith)

pub take_none : (n : ℕ) → ◌≡◌ {A = List ℕ} (take n []) []
take_none zero = refl
take_none (suc n) = refl

-- the element at a place, and what is behind it
pub drop_next : {A : Type 0} (l : List A) (i : ℕ) (d : A) → i < length l → drop i l ≡ get_or l i d ∷ drop (i + 1) l
drop_next l i d h = rw (drop-cons l i d h, add-one i)

-- what is not 0 stands inside
pub get_or_positive : (l : List ℕ) (at : ℕ) → 0 < get_or l at 0 → at < length l
get_or_positive l at h = by (dec_lt at (length l))
  where
    by : Dec (at < length l) → at < length l
    by (yes k) = k
    by (no k) = let z = get_or-eq_default l 0 {n = at} (omega arith) in absurd (omega arith)

pub get_or_zeros : (n i : ℕ) → ◌≡◌ {A = ℕ} (get_or (replicate n 0) i 0) 0
get_or_zeros zero i = refl
get_or_zeros (suc n) zero = refl
get_or_zeros (suc n) (suc i) = get_or_zeros n i

pub lt_or_le : (a b : ℕ) → (a < b) ⊎ (b ≤ a)
lt_or_le zero zero = inr (omega arith)
lt_or_le zero (suc b) = inl (omega arith)
lt_or_le (suc a) zero = inr (omega arith)
lt_or_le (suc a) (suc b) = elim (lt_or_le a b) [ inl h ↦ inl (let k : a < b = h in omega arith) | inr h ↦ inr (let k : b ≤ a = h in omega arith) ]

pub small_product : (a b : ℕ) → a < 256 → b < 256 → a * b ≤ 255 * 255
small_product a b h k = mul-le-mul {n₁ = a} {m₁ = b} {n₂ = 255} {m₂ = 255} (omega arith) (omega arith)
