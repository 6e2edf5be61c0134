-- The register of the check: a byte goes in, two bytes, any run of bytes. A shift goes under `bit_xor`, so the shifts of a register are those of its
-- two bytes, each by itself; and eight shifts of a register with an empty top only move it up.
use mathlib.Core.Path.{◌≡◌, refl, sym, ap, ap₂, ◌∙◌}
use mathlib.Core.List.{List, [], ◌∷◌}
use Prim.Native.Nat.{ℕ, zero, suc, ◌+◌, ◌-◌, ◌*◌, ◌/◌, ◌%◌, ◌≤◌, ◌<◌}
use native.Mathlib.Nat.{zero-add, add-zero, div-add-mod'}
use native.Mathlib.Decide.{dec_lt}
use native.Mathlib.Omega.{arith}
use borrow.Author.Tests.{lt-ltb, le-ltb}
use lib.Bits.{bit_xor, xor_lt, xor_comm, xor_zero_r, xor_block, xor_shifted}
use lib.ListN.{length}
use Rattle.pcrl.specs.Tests.{Every}
use Rattle.pcrl.specs.Blocks.{crc_bit, crc_byte, crc_from}
use Rattle.codec.specs.Crc.{crc_bit_below, crc_byte_below}
use Rattle.blocks.proofs.Xor.{xor_assoc, xor_swap, xor_double, xor_both}

-- ONE SHIFT

-- no bit goes out at the top
crc_bit_low : (x : ℕ) → x < 0x8000 → crc_bit x ≡ x * 2
unfolding crc_bit
crc_bit_low x h = rw (lt-ltb x 0x8000 h, crc_bit)

crc_bit_high : (x : ℕ) → 0x8000 ≤ x → crc_bit x ≡ bit_xor ((x - 0x8000) * 2) 0x1021
unfolding crc_bit
crc_bit_high x h = rw (le-ltb x 0x8000 h, crc_bit)

by_top : (P : ℕ → Type 0) (x : ℕ) → (x < 0x8000 → P x) → (0x8000 ≤ x → P x) → P x
by_top P x low high = elim (dec_lt x 0x8000) [ yes h ↦ low h | no h ↦ high (omega arith) ]

shift_xor_low : (a c : ℕ) → a < 65536 → c < 0x8000 → crc_bit (bit_xor a c) ≡ bit_xor (crc_bit a) (crc_bit c)
shift_xor_low a c h k =
    by_top (λ a. crc_bit (bit_xor a c) ≡ bit_xor (crc_bit a) (crc_bit c)) a
    (λ l. crc_bit_low (bit_xor a c) (xor_lt 15 a c l k) ∙ sym (xor_double a c) ∙ ap₂ bit_xor (sym (crc_bit_low a l)) (sym (crc_bit_low c k)))
    (λ l.
    let r : ℕ = a - 0x8000 in
    let e : a ≡ 0x8000 + r = omega arith in
    let t : bit_xor a c ≡ 0x8000 + bit_xor r c = ap₂ bit_xor e (sym (zero-add c)) ∙ xor_block 15 1 0 r c (omega arith) k in
    let u : bit_xor a c - 0x8000 ≡ bit_xor r c = omega arith in
    crc_bit_high (bit_xor a c) (omega arith)
    ∙ ap (λ (x : ℕ). bit_xor (x * 2) 0x1021) u
    ∙ ap (λ (x : ℕ). bit_xor x 0x1021) (sym (xor_double r c))
    ∙ xor_swap (r * 2) (c * 2) 0x1021
    ∙ ap₂ bit_xor (sym (crc_bit_high a l)) (sym (crc_bit_low c k)))

-- both have a top bit, and it goes
shift_xor_high : (a c : ℕ) → a < 65536 → c < 65536 → 0x8000 ≤ a → 0x8000 ≤ c → crc_bit (bit_xor a c) ≡ bit_xor (crc_bit a) (crc_bit c)
shift_xor_high a c ha hc la lc =
    let r : ℕ = a - 0x8000 in
    let q : ℕ = c - 0x8000 in
    let ea : a ≡ 0x8000 + r = omega arith in
    let ec : c ≡ 0x8000 + q = omega arith in
    let t : bit_xor a c ≡ bit_xor r q = ap₂ bit_xor ea ec ∙ xor_block 15 1 1 r q (omega arith) (omega arith) ∙ zero-add (bit_xor r q) in
    ap crc_bit t
    ∙ crc_bit_low (bit_xor r q) (xor_lt 15 r q (omega arith) (omega arith))
    ∙ sym (xor_double r q)
    ∙ sym (xor_both (r * 2) (q * 2) 0x1021)
    ∙ ap₂ bit_xor (sym (crc_bit_high a la)) (sym (crc_bit_high c lc))

shift_xor : (a c : ℕ) → a < 65536 → c < 65536 → crc_bit (bit_xor a c) ≡ bit_xor (crc_bit a) (crc_bit c)
shift_xor a c ha hc =
    by_top (λ c. crc_bit (bit_xor a c) ≡ bit_xor (crc_bit a) (crc_bit c)) c
    (λ lc. shift_xor_low a c ha lc)
    (λ lc.
    by_top (λ a. crc_bit (bit_xor a c) ≡ bit_xor (crc_bit a) (crc_bit c)) a
    (λ la. ap crc_bit (xor_comm a c) ∙ shift_xor_low c a hc la ∙ xor_comm (crc_bit c) (crc_bit a))
    (λ la. shift_xor_high a c ha hc la lc))

-- EIGHT SHIFTS

abbrev pub shifted : ℕ → ℕ
shifted x = crc_bit (crc_bit (crc_bit (crc_bit (crc_bit (crc_bit (crc_bit (crc_bit x)))))))

pub shifted_below : (x : ℕ) → x < 65536 → shifted x < 65536
shifted_below x h = crc_bit_below _ (crc_bit_below _ (crc_bit_below _ (crc_bit_below _ (crc_bit_below _ (crc_bit_below _ (crc_bit_below _ (crc_bit_below _ h)))))))

-- y is two registers' `bit_xor`
abbrev Both : ℕ → ℕ → ℕ → Type 0
Both y a c = (y ≡ bit_xor a c) × (a < 65536) × (c < 65536)

both_shifted : (y a c : ℕ) → Both y a c → Both (crc_bit y) (crc_bit a) (crc_bit c)
both_shifted y a c h = (ap crc_bit h.0 ∙ shift_xor a c h.1 h.2, crc_bit_below a h.1, crc_bit_below c h.2)

shifted_xor : (a c : ℕ) → a < 65536 → c < 65536 → shifted (bit_xor a c) ≡ bit_xor (shifted a) (shifted c)
shifted_xor a c h k =
    (both_shifted _ _ _ (both_shifted _ _ _ (both_shifted _ _ _ (both_shifted _ _ _ (both_shifted _ _ _ (both_shifted _ _ _ (both_shifted _ _ _ (both_shifted _ _ _ (refl, h, k))))))))).0

-- with an empty top
up : {x y : ℕ} → y ≡ x → x < 0x8000 → crc_bit y ≡ x * 2
up {x} e h = ap crc_bit e ∙ crc_bit_low x h

pub shifted_low : (x : ℕ) → x < 256 → shifted x ≡ x * 256
shifted_low x h =
    let e : x * 2 * 2 * 2 * 2 * 2 * 2 * 2 * 2 ≡ x * 256 = omega arith in
    up (up (up (up (up (up (up (up refl (omega arith)) (omega arith)) (omega arith)) (omega arith)) (omega arith)) (omega arith)) (omega arith)) (omega arith) ∙ e

-- BYTES THAT GO IN

module _ (x b : ℕ) (h : x < 65536) (k : b < 256) where
  -- the byte that b makes at the top
  abbrev pub top : ℕ
  top = bit_xor (x / 256) b

  pub top_small : top < 256
  top_small = xor_lt 8 (x / 256) b (omega arith) k

  -- One byte: the byte below moves up.
  pub crc_byte_shifted : crc_byte x b ≡ bit_xor (x % 256 * 256) (shifted (top * 256))
  unfolding crc_byte
  crc_byte_shifted =
      let low : ℕ = x % 256 in
      let small = top_small in
      let e : bit_xor x (b * 256) ≡ bit_xor (top * 256) low =
      ap₂ bit_xor (sym (div-add-mod' x 256)) (sym (add-zero (b * 256)))
      ∙ xor_block 8 (x / 256) b low 0 (omega arith) (omega arith)
      ∙ ap (λ (l : ℕ). top * 256 + l) (xor_zero_r low)
      ∙ sym (xor_shifted top 8 low (omega arith)) in
      ap shifted e
      ∙ shifted_xor (top * 256) low (omega arith) (omega arith)
      ∙ xor_comm (shifted (top * 256)) (shifted low)
      ∙ ap (λ (l : ℕ). bit_xor l (shifted (top * 256))) (shifted_low low (omega arith))

  module _ (d : ℕ) (m : d < 256) where
    -- the byte that d makes below
    abbrev pub below : ℕ
    below = bit_xor (x % 256) d

    pub below_small : below < 256
    below_small = xor_lt 8 (x % 256) d (omega arith) m

    -- Two bytes: sixteen shifts of the one, eight of the other.
    pub crc_bytes_shifted : crc_byte (crc_byte x b) d ≡ bit_xor (shifted (shifted (top * 256))) (shifted (below * 256))
    unfolding crc_byte
    crc_bytes_shifted =
        let small = top_small in
        let small' = below_small in
        let s : ℕ = shifted (top * 256) in
        let e : bit_xor (crc_byte x b) (d * 256) ≡ bit_xor (below * 256) s =
        ap (λ (y : ℕ). bit_xor y (d * 256)) crc_byte_shifted
        ∙ xor_swap (x % 256 * 256) s (d * 256)
        ∙ ap (λ (y : ℕ). bit_xor y s) (sym (ap₂ bit_xor (add-zero (x % 256 * 256)) (add-zero (d * 256))) ∙ xor_block 8 (x % 256) d 0 0 (omega arith) (omega arith) ∙ add-zero (below * 256)) in
        ap shifted e
        ∙ shifted_xor (below * 256) s (omega arith) (shifted_below (top * 256) (omega arith))
        ∙ xor_comm (shifted (below * 256)) (shifted s)

-- SHIFTED n TIMES

unfoldable pub shifts : ℕ → ℕ → ℕ
shifts zero x = x
shifts (suc n) x = shifted (shifts n x)

pub shifts_below : (n x : ℕ) → x < 65536 → shifts n x < 65536
unfolding shifts
shifts_below zero x h = h
shifts_below (suc n) x h = shifted_below (shifts n x) (shifts_below n x h)

pub shifts_xor : (n a c : ℕ) → a < 65536 → c < 65536 → shifts n (bit_xor a c) ≡ bit_xor (shifts n a) (shifts n c)
unfolding shifts
shifts_xor zero a c h k = refl
shifts_xor (suc n) a c h k = ap shifted (shifts_xor n a c h k) ∙ shifted_xor (shifts n a) (shifts n c) (shifts_below n a h) (shifts_below n c k)

pub shifts_first : (n x : ℕ) → shifts n (shifted x) ≡ shifts (suc n) x
unfolding shifts
shifts_first zero x = refl
shifts_first (suc n) x = ap shifted (shifts_first n x)

-- Bytes by themselves: each is shifted once more than those behind it.
unfoldable pub ahead : List ℕ → ℕ
ahead [] = 0
ahead (b ∷ s) = bit_xor (shifts (suc (length s)) (b * 256)) (ahead s)

-- A run of bytes: what the register was is shifted by itself.
pub crc_run : (x : ℕ) (s : List ℕ) → x < 65536 → Every (λ b. b < 256) s → crc_from x s ≡ bit_xor (shifts (length s) x) (ahead s)
unfolding crc_from crc_byte Every shifts ahead
crc_run x [] h k = sym (xor_zero_r x)
crc_run x (b ∷ s) h k =
    let small = k.0 in
    crc_run (crc_byte x b) s (crc_byte_below x b h small) k.1
    ∙ ap (λ (y : ℕ). bit_xor y (ahead s))
    (shifts_first (length s) (bit_xor x (b * 256)) ∙ shifts_xor (suc (length s)) x (b * 256) h (omega arith))
    ∙ xor_assoc (shifts (suc (length s)) x) (shifts (suc (length s)) (b * 256)) (ahead s)
