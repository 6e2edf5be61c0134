-- Laws of bits: of a union, of one number, and that bits say which number it is.
use mathlib.Core.Path.{◌≡◌, refl, sym, ap, ◌∙◌}
use mathlib.Core.Bool.{false}
use Prim.Native.Nat.{ℕ, zero, suc, ◌/◌, ◌%◌, ◌^◌, ◌<◌, max}
use native.Mathlib.Nat.{pow-suc}
use native.Mathlib.Omega.{arith}
use lib.Dec.{eqb, eqb-zero-suc, eqb-suc-zero, eqb-suc-suc}
use lib.Bits.{bit_or, or_step}
use Rattle.pcrl.specs.Tests.{or}
use Rattle.nodes.specs.Bits.{odd, bit}

odd_max : (x y : ℕ) → x < 2 → y < 2 → odd (max x y) ≡ or (odd x) (odd y)
unfolding odd
odd_max zero zero h k = refl
odd_max zero (suc zero) h k = refl
odd_max (suc zero) zero h k = refl
odd_max (suc zero) (suc zero) h k = refl
odd_max zero (suc (suc y)) h k = absurd (omega arith)
odd_max (suc zero) (suc (suc y)) h k = absurd (omega arith)
odd_max (suc (suc x)) y h k = absurd (omega arith)

-- a union
pub or_bit : (i a b : ℕ) → bit i (bit_or a b) ≡ or (bit i a) (bit i b)
unfolding bit
or_bit zero a b =
    let z : bit_or a b % 2 ≡ max (a % 2) (b % 2) = omega (arith, or_step a b) in
    ap odd z ∙ odd_max (a % 2) (b % 2) (omega arith) (omega arith)
or_bit (suc i) a b =
    let z : bit_or a b / 2 ≡ bit_or (a / 2) (b / 2) = omega (arith, or_step a b) in
    ap (bit i) z ∙ or_bit i (a / 2) (b / 2)

-- the empty set
pub zero_bit : (i : ℕ) → bit i 0 ≡ false
unfolding bit odd
zero_bit zero = refl
zero_bit (suc i) = zero_bit i

-- one number
pow_bit : (i v : ℕ) → bit i (2 ^ v) ≡ eqb i v
unfolding bit odd
pow_bit zero zero = refl
pow_bit zero (suc v) = let z : 2 ^ suc v % 2 ≡ 0 = omega (arith, pow-suc 2 v) in ap odd z ∙ sym (eqb-zero-suc v)
pow_bit (suc i) zero = zero_bit i ∙ sym (eqb-suc-zero i)
pow_bit (suc i) (suc v) = let z : 2 ^ suc v / 2 ≡ 2 ^ v = omega (arith, pow-suc 2 v) in ap (bit i) z ∙ pow_bit i v ∙ sym (eqb-suc-suc i v)

-- one number more
pub with_bit : (m v i : ℕ) → bit i (bit_or m (2 ^ v)) ≡ or (bit i m) (eqb i v)
with_bit m v i = or_bit i m (2 ^ v) ∙ ap (or (bit i m)) (pow_bit i v)

odd_same : (x y : ℕ) → x < 2 → y < 2 → odd x ≡ odd y → x ≡ y
unfolding odd
odd_same zero zero h k e = refl
odd_same zero (suc y) h k e = let z : ◌≡◌ {A = ℕ} 0 1 = cc in absurd (omega arith)
odd_same (suc x) zero h k e = let z : ◌≡◌ {A = ℕ} 0 1 = cc in absurd (omega arith)
odd_same (suc x) (suc y) h k e = omega arith

-- two sets with the same numbers are the same
pub bits_same : (k a b : ℕ) → a < 2 ^ k → b < 2 ^ k → ((i : ℕ) → i < k → bit i a ≡ bit i b) → a ≡ b
unfolding bit
bits_same zero a b h j e = omega arith
bits_same (suc k) a b h j e =
    let p : a % 2 ≡ b % 2 = odd_same (a % 2) (b % 2) (omega arith) (omega arith) (e 0 (omega arith)) in
    let q : a / 2 ≡ b / 2 = bits_same k (a / 2) (b / 2) (omega (arith, pow-suc 2 k)) (omega (arith, pow-suc 2 k)) (λ i l. e (suc i) (omega arith)) in
    omega arith
