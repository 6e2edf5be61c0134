-- The check of bytes, read from the tables: what eight more bytes do, what one does, and where it ends.
use mathlib.Core.Path.{◌≡◌, refl, sym, ap, ap₂, ◌∙◌}
use mathlib.Core.List.{List, [], ◌∷◌}
use Prim.Native.Nat.{ℕ, suc, ◌+◌, ◌*◌, ◌/◌, ◌%◌, ◌<◌}
use native.Mathlib.Omega.{arith}
use lib.Bits.{bit_xor, xor_zero_r}
use lib.ListN.{length, drop, get_or}
use lib.Seq.{drop-cons, drop-length}
use Rattle.pcrl.specs.Tests.{Every}
use Rattle.pcrl.specs.Blocks.{crc_byte, crc_from, crc}
use Rattle.codec.specs.Crc.{crc_byte_below}
use Rattle.blocks.specs.Halves.{halves}
use Rattle.blocks.proofs.Register.{shifted, shifted_below, top, top_small, crc_byte_shifted, below, below_small, crc_bytes_shifted, shifts, shifts_xor, ahead, crc_run}
use Rattle.blocks.proofs.Shifted.{once, once_entry, twice, twice_entry, thrice, thrice_entry, four, four_entry, five, five_entry, six, six_entry, seven, seven_entry, eight, eight_entry}

-- by the tables
abbrev pub one_byte : ℕ → ℕ → ℕ
one_byte x b = bit_xor (x % 256 * 256) (halves once (bit_xor (x / 256) b))

abbrev pub eight_bytes : ℕ → ℕ → ℕ → ℕ → ℕ → ℕ → ℕ → ℕ → ℕ → ℕ
eight_bytes x b₀ b₁ b₂ b₃ b₄ b₅ b₆ b₇ = bit_xor (bit_xor (halves eight (bit_xor (x / 256) b₀)) (halves seven (bit_xor (x % 256) b₁))) (bit_xor (halves six b₂) (bit_xor (halves five b₃) (bit_xor (halves four b₄) (bit_xor (halves thrice b₅) (bit_xor (halves twice b₆) (halves once b₇))))))

module _ (x b : ℕ) (h : x < 65536) (k : b < 256) where
  one_byte_is : one_byte x b ≡ crc_byte x b
  unfolding shifts
  one_byte_is = sym (crc_byte_shifted x b h k ∙ ap (bit_xor (x % 256 * 256)) (sym (once_entry (top x b h k) (top_small x b h k))))

  pub one_byte_below : one_byte x b < 65536
  one_byte_below = rw one_byte_is (crc_byte_below x b h k)

module _ (x : ℕ) (h : x < 65536) (b₀ : ℕ) (k₀ : b₀ < 256) (b₁ : ℕ) (k₁ : b₁ < 256) (b₂ : ℕ) (k₂ : b₂ < 256) (b₃ : ℕ) (k₃ : b₃ < 256) (b₄ : ℕ) (k₄ : b₄ < 256) (b₅ : ℕ) (k₅ : b₅ < 256) (b₆ : ℕ) (k₆ : b₆ < 256) (b₇ : ℕ) (k₇ : b₇ < 256) where
  -- the six bytes that wait for nothing
  behind_is : bit_xor (halves six b₂) (bit_xor (halves five b₃) (bit_xor (halves four b₄) (bit_xor (halves thrice b₅) (bit_xor (halves twice b₆) (halves once b₇))))) ≡ ahead (b₂ ∷ b₃ ∷ b₄ ∷ b₅ ∷ b₆ ∷ b₇ ∷ [])
  unfolding ahead
  behind_is =
      ap₂ bit_xor (six_entry b₂ k₂) (ap₂ bit_xor (five_entry b₃ k₃) (ap₂ bit_xor (four_entry b₄ k₄) (ap₂ bit_xor (thrice_entry b₅ k₅) (ap₂ bit_xor (twice_entry b₆ k₆) (once_entry b₇ k₇ ∙ sym (xor_zero_r (shifts 1 (b₇ * 256))))))))

  eight_bytes_is : eight_bytes x b₀ b₁ b₂ b₃ b₄ b₅ b₆ b₇ ≡ crc_from x (b₀ ∷ b₁ ∷ b₂ ∷ b₃ ∷ b₄ ∷ b₅ ∷ b₆ ∷ b₇ ∷ [])
  unfolding crc_from Every shifts
  eight_bytes_is =
      let t : ℕ = top x b₀ h k₀ in
      let u : ℕ = below x b₀ h k₀ b₁ k₁ in
      let t_small = top_small x b₀ h k₀ in
      let u_small = below_small x b₀ h k₀ b₁ k₁ in
      let y : ℕ = crc_byte (crc_byte x b₀) b₁ in
      let first : shifts 6 y ≡ bit_xor (halves eight t) (halves seven u) =
      ap (shifts 6) (crc_bytes_shifted x b₀ h k₀ b₁ k₁)
      ∙ shifts_xor 6 (shifted (shifted (t * 256))) (shifted (u * 256)) (shifted_below (shifted (t * 256)) (shifted_below (t * 256) (omega arith))) (shifted_below (u * 256) (omega arith))
      ∙ ap₂ bit_xor (sym (eight_entry t t_small)) (sym (seven_entry u u_small)) in
      sym
      (crc_run y (b₂ ∷ b₃ ∷ b₄ ∷ b₅ ∷ b₆ ∷ b₇ ∷ []) (crc_byte_below (crc_byte x b₀) b₁ (crc_byte_below x b₀ h k₀) k₁) (k₂, (k₃, (k₄, (k₅, (k₆, (k₇, tt))))))
      ∙ ap₂ bit_xor first (sym behind_is))

  pub eight_bytes_below : eight_bytes x b₀ b₁ b₂ b₃ b₄ b₅ b₆ b₇ < 65536
  unfolding crc_from
  eight_bytes_below = rw eight_bytes_is (crc_byte_below _ b₇ (crc_byte_below _ b₆ (crc_byte_below _ b₅ (crc_byte_below _ b₄ (crc_byte_below _ b₃ (crc_byte_below _ b₂ (crc_byte_below _ b₁ (crc_byte_below _ b₀ h k₀) k₁) k₂) k₃) k₄) k₅) k₆) k₇)

pub crc_from_cons : (x : ℕ) (s : List ℕ) (i j : ℕ) → j ≡ suc i → i < length s → crc_from x (drop i s) ≡ crc_from (crc_byte x (get_or s i 0)) (drop j s)
unfolding crc_from
crc_from_cons x s i j e h = rw (e, drop-cons s i 0)

pub crc_starts : (s : List ℕ) → crc_from 0xFFFF (drop 0 s) ≡ crc s
unfolding crc
crc_starts s = refl

pub crc_ends : (s : List ℕ) (x i : ℕ) → i ≡ length s → crc_from x (drop i s) ≡ crc s → x ≡ crc s
unfolding crc_from
crc_ends s x i ei e = sym (rw (ei, drop-length s) refl) ∙ e

module _ (s : List ℕ) (x i : ℕ) (hx : x < 65536) (small : (j : ℕ) → get_or s j 0 < 256) (e : crc_from x (drop i s) ≡ crc s) where
  -- The register after eight bytes from i on.
  pub crc_eight : i + 7 < length s → crc_from (eight_bytes x (get_or s i 0) (get_or s (i + 1) 0) (get_or s (i + 2) 0) (get_or s (i + 3) 0) (get_or s (i + 4) 0) (get_or s (i + 5) 0) (get_or s (i + 6) 0) (get_or s (i + 7) 0)) (drop (i + 8) s) ≡ crc s
  unfolding crc_from
  crc_eight h =
      let x1 : ℕ = crc_byte x (get_or s i 0) in
      let x2 : ℕ = crc_byte x1 (get_or s (i + 1) 0) in
      let x3 : ℕ = crc_byte x2 (get_or s (i + 2) 0) in
      let x4 : ℕ = crc_byte x3 (get_or s (i + 3) 0) in
      let x5 : ℕ = crc_byte x4 (get_or s (i + 4) 0) in
      let x6 : ℕ = crc_byte x5 (get_or s (i + 5) 0) in
      let x7 : ℕ = crc_byte x6 (get_or s (i + 6) 0) in
      rw (eight_bytes_is x hx (get_or s i 0) (small i) (get_or s (i + 1) 0) (small (i + 1)) (get_or s (i + 2) 0) (small (i + 2)) (get_or s (i + 3) 0) (small (i + 3)) (get_or s (i + 4) 0) (small (i + 4)) (get_or s (i + 5) 0) (small (i + 5)) (get_or s (i + 6) 0) (small (i + 6)) (get_or s (i + 7) 0) (small (i + 7)))
      (sym (crc_from_cons x s i (i + 1) (omega arith) (omega arith) ∙ crc_from_cons x1 s (i + 1) (i + 2) (omega arith) (omega arith) ∙ crc_from_cons x2 s (i + 2) (i + 3) (omega arith) (omega arith) ∙ crc_from_cons x3 s (i + 3) (i + 4) (omega arith) (omega arith) ∙ crc_from_cons x4 s (i + 4) (i + 5) (omega arith) (omega arith) ∙ crc_from_cons x5 s (i + 5) (i + 6) (omega arith) (omega arith) ∙ crc_from_cons x6 s (i + 6) (i + 7) (omega arith) (omega arith) ∙ crc_from_cons x7 s (i + 7) (i + 8) (omega arith) (omega arith)) ∙ e)

  -- The register after one.
  pub crc_one : i < length s → crc_from (one_byte x (get_or s i 0)) (drop (i + 1) s) ≡ crc s
  crc_one h = rw (one_byte_is x (get_or s i 0) hx (small i)) (sym (crc_from_cons x s i (i + 1) (omega arith) h) ∙ e)
