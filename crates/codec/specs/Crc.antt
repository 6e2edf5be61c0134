-- The check of document 01's nine bytes, by computation; and the check of bytes is a number of 16 bits, so that two bytes hold it.
use Rattle.std.specs.Prelude.{◌≡◌, refl, List, [], ◌∷◌, Bool, true, false, ℕ, ◌-◌, ◌*◌, ◌<◌, ltb}
use Rattle.std.proofs.Common.{arith, ltb-true}
use Rattle.std.specs.Int.Bits.{bit_xor}
use Rattle.std.proofs.lemmas.Nat.{xor_lt}
use Rattle.pcrl.specs.Text.{bytes}
use Rattle.pcrl.specs.Tests.{Every}
use Rattle.pcrl.specs.Blocks.{crc_bit, crc_byte, crc_from, crc}

-- "the nine bytes 123456789 give 29B1"
pub crc_worked : crc (bytes "123456789") ≡ 0x29B1
unfolding crc crc_from crc_byte crc_bit
crc_worked = refl

pub crc_bit_below : (x : ℕ) → x < 65536 → crc_bit x < 65536
unfolding crc_bit
crc_bit_below x h = go (ltb x 0x8000) (ltb-true x 0x8000)
  where
    go : (b : Bool) → (b ≡ true → x < 0x8000) → elim b [ true ↦ x * 2 | false ↦ bit_xor ((x - 0x8000) * 2) 0x1021 ] < 65536
    go true k = let z = k refl in omega arith
    go false k = xor_lt 16 ((x - 0x8000) * 2) 0x1021 (omega arith) (omega arith)

pub crc_byte_below : (x b : ℕ) → x < 65536 → b < 256 → crc_byte x b < 65536
unfolding crc_byte
crc_byte_below x b h k =
    crc_bit_below _ (crc_bit_below _ (crc_bit_below _ (crc_bit_below _ (crc_bit_below _ (crc_bit_below _ (crc_bit_below _ (crc_bit_below _
    (xor_lt 16 x (b * 256) h (omega arith)))))))))

crc_from_below : (x : ℕ) (s : List ℕ) → x < 65536 → Every (λ b. b < 256) s → crc_from x s < 65536
unfolding crc_from Every
crc_from_below x [] h k = h
crc_from_below x (b ∷ s) h k = crc_from_below (crc_byte x b) s (crc_byte_below x b h k.0) k.1

pub crc_below : (s : List ℕ) → Every (λ b. b < 256) s → crc s < 65536
unfolding crc
crc_below s h = crc_from_below 0xFFFF s (omega arith) h
