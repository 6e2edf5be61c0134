-- The tables of 32 and of 160 zeros: the lower one is computed from that of seven bytes, by eight zeros at a time, the higher one from the lower one.
use mathlib.Core.Path.{◌≡◌, refl, sym, ap, ap₂, ◌∙◌}
use mathlib.Core.List.{List, [], ◌∷◌, map}
use Prim.Native.Nat.{ℕ, zero, suc, ◌*◌, ◌/◌, ◌%◌, ◌<◌}
use native.Mathlib.Omega.{arith}
use native.Mathlib.Nat.{div-add-mod'}
use lib.Bits.{bit_xor, xor_shifted}
use lib.ListN.{get_or, get_or-map}
use Rattle.pcrl.specs.Lists.{tabulate}
use Rattle.pcrl.specs.Blocks.{crc_bit}
use Rattle.blocks.specs.Halves.{halves}
use Rattle.blocks.proofs.Register.{shifted, shifted_low, shifts, shifts_below, shifts_xor, shifts_first}
use Rattle.blocks.proofs.Shifted.{spread, spread_entry, Shifts, shifts_next, seven, seven_entry, eight, eight_entry}

unfoldable pub few_low : List ℕ
few_low = 0 ∷ 25496 ∷ 50992 ∷ 42152 ∷ 40513 ∷ 64985 ∷ 22897 ∷ 15081 ∷ 11427 ∷ 20283 ∷ 60307 ∷ 34827 ∷ 45794 ∷ 53626 ∷ 30162 ∷ 5706 ∷ 0 ∷ 36393 ∷ 3187 ∷ 33370 ∷ 6374 ∷ 38607 ∷ 5269 ∷ 39612 ∷ 12748 ∷ 49125 ∷ 15807 ∷ 45974 ∷ 10538 ∷ 42755 ∷ 9561 ∷ 43888 ∷ []

unfoldable pub few_high : List ℕ
few_high = 0 ∷ 50373 ∷ 39339 ∷ 23918 ∷ 9079 ∷ 59314 ∷ 47836 ∷ 32281 ∷ 18158 ∷ 33323 ∷ 57157 ∷ 7040 ∷ 26009 ∷ 41308 ∷ 64562 ∷ 14583 ∷ 0 ∷ 22854 ∷ 45708 ∷ 60362 ∷ 30009 ∷ 11391 ∷ 51125 ∷ 40691 ∷ 60018 ∷ 45876 ∷ 22782 ∷ 440 ∷ 40779 ∷ 50701 ∷ 11719 ∷ 29825 ∷ []

unfoldable pub many_low : List ℕ
many_low = 0 ∷ 15763 ∷ 31526 ∷ 18101 ∷ 63052 ∷ 52191 ∷ 36202 ∷ 45305 ∷ 64697 ∷ 49450 ∷ 34719 ∷ 47628 ∷ 2805 ∷ 14182 ∷ 29139 ∷ 19520 ∷ 0 ∷ 12511 ∷ 25022 ∷ 20833 ∷ 50044 ∷ 62371 ∷ 41666 ∷ 37405 ∷ 38617 ∷ 42502 ∷ 63335 ∷ 51128 ∷ 21925 ∷ 25978 ∷ 13339 ∷ 1220 ∷ []

unfoldable pub many_high : List ℕ
many_high = 0 ∷ 29950 ∷ 59900 ∷ 40194 ∷ 50137 ∷ 46887 ∷ 10789 ∷ 24283 ∷ 38803 ∷ 58221 ∷ 32367 ∷ 2705 ∷ 21578 ∷ 8372 ∷ 48566 ∷ 51528 ∷ 0 ∷ 59731 ∷ 49799 ∷ 11220 ∷ 38191 ∷ 31868 ∷ 22440 ∷ 48891 ∷ 14975 ∷ 54060 ∷ 63736 ∷ 4523 ∷ 44880 ∷ 17923 ∷ 28119 ∷ 33924 ∷ []

-- Zeros, by two tables: each byte of a register is shifted by itself, and the lower one has eight shifts less to go.
abbrev pub by_bytes : List ℕ → List ℕ → ℕ → ℕ
by_bytes high low x = bit_xor (halves high (x / 256)) (halves low (x % 256))

pub by_bytes_is : (n : ℕ) (high low : List ℕ) → Shifts (suc n) high → Shifts n low → (x : ℕ) → x < 65536 → by_bytes high low x ≡ shifts (suc n) x
by_bytes_is n high low h l x small =
    ap₂ bit_xor (h (x / 256) (omega arith)) (l (x % 256) (omega arith) ∙ ap (shifts n) (sym (shifted_low (x % 256) (omega arith))) ∙ shifts_first n (x % 256))
    ∙ sym (shifts_xor (suc n) (x / 256 * 256) (x % 256) (omega arith) (omega arith))
    ∙ ap (shifts (suc n)) (xor_shifted (x / 256) 8 (x % 256) (omega arith) ∙ div-add-mod' x 256)

abbrev eight_zeros : ℕ → ℕ
eight_zeros = by_bytes eight seven

-- n times eight zeros more than seven bytes: the table, and how many bytes they are
unfoldable further : ℕ → List ℕ
further zero = spread seven
further (suc n) = map eight_zeros (further n)

unfoldable bytes : ℕ → ℕ
bytes zero = 7
bytes (suc n) = suc (suc (suc (suc (suc (suc (suc (suc (bytes n))))))))

further_entry : (n k : ℕ) → k < 256 → get_or (further n) k 0 ≡ shifts (bytes n) (k * 256)
unfolding further bytes shifts seven eight
further_entry zero k h = spread_entry seven k h ∙ seven_entry k h
further_entry (suc n) k h =
    get_or-map eight_zeros (further n) k 0
    ∙ ap eight_zeros (further_entry n k h)
    ∙ by_bytes_is 7 eight seven eight_entry seven_entry (shifts (bytes n) (k * 256)) (shifts_below (bytes n) (k * 256) (omega arith))

few_low_computed : spread few_low ≡ further 3
unfolding few_low further seven eight tabulate
few_low_computed = refl

few_high_computed : spread few_high ≡ map shifted (spread few_low)
unfolding few_high few_low tabulate crc_bit
few_high_computed = refl

pub few_low_entry : Shifts 31 few_low
unfolding bytes
few_low_entry k h = sym (spread_entry few_low k h) ∙ ap (λ (l : List ℕ). get_or l k 0) few_low_computed ∙ further_entry 3 k h

pub few_high_entry : Shifts 32 few_high
few_high_entry = shifts_next 31 few_low few_high few_low_entry few_high_computed

many_low_computed : spread many_low ≡ further 19
unfolding many_low further seven eight tabulate
many_low_computed = refl

many_high_computed : spread many_high ≡ map shifted (spread many_low)
unfolding many_high many_low tabulate crc_bit
many_high_computed = refl

pub many_low_entry : Shifts 159 many_low
unfolding bytes
many_low_entry k h = sym (spread_entry many_low k h) ∙ ap (λ (l : List ℕ). get_or l k 0) many_low_computed ∙ further_entry 19 k h

pub many_high_entry : Shifts 160 many_high
many_high_entry = shifts_next 159 many_low many_high many_low_entry many_high_computed
