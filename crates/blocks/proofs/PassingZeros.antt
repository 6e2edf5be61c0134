-- Zeros at the end of the bytes: how they are found, many at a time, and what they do to the register.
use mathlib.Core.Path.{◌≡◌, refl, sym, ap, ap₂, ◌∙◌}
use mathlib.Core.List.{List, [], ◌∷◌, ◌++◌}
use mathlib.Core.Bool.{Bool, true, false, ◌&&◌}
use Prim.Native.Nat.{ℕ, zero, suc, ◌+◌, ◌-◌, ◌*◌, ◌%◌, ◌≤◌, ◌<◌}
use native.Mathlib.Decide.{ℕ_discrete, dec_lt}
use native.Mathlib.Omega.{arith}
use borrow.Author.Tests.{eqb-true}
use lib.Bits.{bit_xor, xor_zero_r}
use lib.Dec.{eqb}
use lib.ListN.{length, take, drop, get_or, take-append-drop, get_or-eq_default}
use Rattle.pcrl.specs.Blocks.{crc_byte, crc_from, crc}
use Rattle.blocks.proofs.Register.{shifted, shifts, shifts_below}
use Rattle.blocks.proofs.Shifted.{Shifts}
use Rattle.blocks.proofs.ZeroTables.{by_bytes, by_bytes_is}
use Rattle.blocks.proofs.Check.{crc_from_cons}

-- the bytes from `at` on and before `end`
abbrev pub Zeros : List ℕ → ℕ → ℕ → Type 0
Zeros s at end = (k : ℕ) → at ≤ k → k < end → get_or s k 0 ≡ 0

pub zeros_more : (s : List ℕ) (at i : ℕ) (good : Bool) → (good ≡ true → Zeros s at (at + i)) → (good && eqb (get_or s (at + i) 0) 0) ≡ true → Zeros s at (at + (i + 1))
zeros_more s at i true z e k l h = elim (ℕ_discrete k (at + i)) [ yes a ↦ ap (λ (x : ℕ). get_or s x 0) a ∙ eqb-true (get_or s (at + i) 0) 0 e | no n ↦ z refl k l (omega arith) ]
zeros_more s at i false z e k l h = let f : ◌≡◌ {A = Bool} false true = e in cc

-- zeros from n on to any place
abbrev pub AllZeros : List ℕ → ℕ → Type 0
AllZeros s n = (k : ℕ) → n ≤ k → get_or s k 0 ≡ 0

pub zeros_behind : (s : List ℕ) → AllZeros s (length s)
zeros_behind s k h = get_or-eq_default s 0 h

pub zeros_before : (s : List ℕ) (n m : ℕ) → n + 32 ≡ m → Zeros s n (n + 32) → AllZeros s m → AllZeros s n
zeros_before s n m e z a k l = elim (dec_lt k m) [ yes h ↦ z k l (omega arith) | no h ↦ a k (omega arith) ]

crc_zero : (x b : ℕ) → b ≡ 0 → crc_byte x b ≡ shifted x
unfolding crc_byte
crc_zero x b e = ap (λ (b : ℕ). shifted (bit_xor x (b * 256))) e ∙ ap shifted (xor_zero_r x)

crc_from_zeros : (s : List ℕ) (x i n : ℕ) → i + n ≤ length s → AllZeros s i → crc_from x (drop i s) ≡ crc_from (shifts n x) (drop (i + n) s)
unfolding shifts
crc_from_zeros s x i zero h z = let e : i ≡ i + 0 = omega arith in ap (λ (j : ℕ). crc_from x (drop j s)) e
crc_from_zeros s x i (suc n) h z =
    crc_from_zeros s x i n (omega arith) z
    ∙ crc_from_cons (shifts n x) s (i + n) (i + suc n) (omega arith) (omega arith)
    ∙ ap (λ (y : ℕ). crc_from y (drop (i + suc n) s)) (crc_zero (shifts n x) (get_or s (i + n) 0) (z (i + n) (omega arith)))

-- From i on there are zeros, as many as are passed in whole steps, and what is left makes the check of all.
abbrev pub Passing : List ℕ → ℕ → ℕ → Type 0
Passing s i x = (i ≤ length s) × ((length s - i) % 32 ≡ 0) × (x < 65536) × AllZeros s i × (crc_from x (drop i s) ≡ crc s)

-- One step, by two tables: r is the register behind it.
pub passing_more : (n : ℕ) (high low : List ℕ) → Shifts (suc n) high → Shifts n low → suc n % 32 ≡ 0 → (s : List ℕ) (i x r : ℕ) → r ≡ by_bytes high low x → i + suc n ≤ length s → Passing s i x → Passing s (i + suc n) r
passing_more n high low h l even s i x r e k p =
    let w : r ≡ shifts (suc n) x = e ∙ by_bytes_is n high low h l x p.2 in
    (k, omega arith, rw w (shifts_below (suc n) x p.2), λ j g. p.3 j (omega arith), rw w (sym (crc_from_zeros s x i (suc n) k p.3) ∙ p.4))

crc_from_append : (x : ℕ) (s t : List ℕ) → crc_from (crc_from x s) t ≡ crc_from x (s ++ t)
unfolding crc_from
crc_from_append x [] t = refl
crc_from_append x (b ∷ s) t = crc_from_append (crc_byte x b) s t

-- The bytes before i, n of them, have gone in.
pub crc_front : (s : List ℕ) (x i n : ℕ) → n ≡ i → x ≡ crc (take n s) → crc_from x (drop i s) ≡ crc s
unfolding crc
crc_front s x i n k e =
    ap₂ (λ (y j : ℕ). crc_from y (drop j s)) e (sym k) ∙ crc_from_append 0xFFFF (take n s) (drop n s) ∙ ap (crc_from 0xFFFF) (take-append-drop n s)
