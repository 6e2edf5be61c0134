-- The tables of the check: each is computed at once from the one before it, and what that says of each entry.
use mathlib.Core.Path.{◌≡◌, refl, sym, ap, ◌∙◌}
use mathlib.Core.List.{List, [], ◌∷◌, map}
use Prim.Native.Nat.{ℕ, suc, ◌*◌, ◌<◌}
use lib.ListN.{get_or, get_or-map}
use Rattle.pcrl.specs.Lists.{tabulate}
use Rattle.pcrl.specs.Blocks.{crc_bit}
use Rattle.laws.specs.Lists.{get_d_tabulate}
use Rattle.blocks.specs.Halves.{halves}
use Rattle.blocks.proofs.Register.{shifted, shifts}

unfoldable pub once : List ℕ
once = 0 ∷ 4657 ∷ 9314 ∷ 13907 ∷ 18628 ∷ 23285 ∷ 27814 ∷ 32407 ∷ 37256 ∷ 33721 ∷ 46570 ∷ 42971 ∷ 55628 ∷ 52093 ∷ 64814 ∷ 61215 ∷ 0 ∷ 4129 ∷ 8258 ∷ 12387 ∷ 16516 ∷ 20645 ∷ 24774 ∷ 28903 ∷ 33032 ∷ 37161 ∷ 41290 ∷ 45419 ∷ 49548 ∷ 53677 ∷ 57806 ∷ 61935 ∷ []

unfoldable pub twice : List ℕ
twice = 0 ∷ 883 ∷ 1766 ∷ 1429 ∷ 3532 ∷ 3775 ∷ 2858 ∷ 2137 ∷ 7064 ∷ 6379 ∷ 7550 ∷ 7693 ∷ 5716 ∷ 5415 ∷ 4274 ∷ 5057 ∷ 0 ∷ 13105 ∷ 26210 ∷ 21843 ∷ 52420 ∷ 65525 ∷ 43686 ∷ 39319 ∷ 35241 ∷ 47768 ∷ 61387 ∷ 56570 ∷ 17773 ∷ 30300 ∷ 8975 ∷ 4158 ∷ []

unfoldable pub thrice : List ℕ
thrice = 0 ∷ 17251 ∷ 34502 ∷ 50597 ∷ 7597 ∷ 24270 ∷ 39787 ∷ 55304 ∷ 15194 ∷ 30777 ∷ 48540 ∷ 65279 ∷ 9975 ∷ 26004 ∷ 41009 ∷ 58194 ∷ 0 ∷ 14128 ∷ 28256 ∷ 22864 ∷ 56512 ∷ 60400 ∷ 45728 ∷ 34192 ∷ 43425 ∷ 40593 ∷ 51137 ∷ 61681 ∷ 30049 ∷ 16977 ∷ 6913 ∷ 11313 ∷ []

unfoldable pub four : List ℕ
four = 0 ∷ 7079 ∷ 14158 ∷ 11497 ∷ 28316 ∷ 30011 ∷ 22994 ∷ 17013 ∷ 56632 ∷ 50847 ∷ 60022 ∷ 61905 ∷ 45988 ∷ 43011 ∷ 34026 ∷ 40781 ∷ 0 ∷ 30388 ∷ 60776 ∷ 39900 ∷ 51953 ∷ 48197 ∷ 10137 ∷ 20781 ∷ 34243 ∷ 62327 ∷ 26795 ∷ 7711 ∷ 20274 ∷ 14726 ∷ 41562 ∷ 54510 ∷ []

unfoldable pub five : List ℕ
five = 0 ∷ 1114 ∷ 2228 ∷ 3310 ∷ 4456 ∷ 5426 ∷ 6620 ∷ 7558 ∷ 8912 ∷ 9866 ∷ 10852 ∷ 11838 ∷ 13240 ∷ 14306 ∷ 15116 ∷ 16214 ∷ 0 ∷ 43601 ∷ 17539 ∷ 61138 ∷ 35078 ∷ 9047 ∷ 52613 ∷ 26580 ∷ 557 ∷ 43132 ∷ 18094 ∷ 60671 ∷ 35627 ∷ 8570 ∷ 53160 ∷ 26105 ∷ []

unfoldable pub six : List ℕ
six = 0 ∷ 6788 ∷ 13576 ∷ 12172 ∷ 27152 ∷ 28820 ∷ 24344 ∷ 17820 ∷ 54304 ∷ 52900 ∷ 57640 ∷ 64428 ∷ 48688 ∷ 42164 ∷ 35640 ∷ 37308 ∷ 0 ∷ 17824 ∷ 35648 ∷ 52960 ∷ 1697 ∷ 17153 ∷ 36321 ∷ 51265 ∷ 3394 ∷ 18658 ∷ 34306 ∷ 50082 ∷ 3043 ∷ 20035 ∷ 32931 ∷ 50435 ∷ []

unfoldable pub seven : List ℕ
seven = 0 ∷ 14203 ∷ 28406 ∷ 22925 ∷ 56812 ∷ 60055 ∷ 45850 ∷ 33889 ∷ 44025 ∷ 40066 ∷ 50447 ∷ 62068 ∷ 30229 ∷ 16750 ∷ 6371 ∷ 12184 ∷ 0 ∷ 47201 ∷ 24803 ∷ 55426 ∷ 49606 ∷ 31143 ∷ 41253 ∷ 6468 ∷ 37805 ∷ 11212 ∷ 62286 ∷ 19247 ∷ 21099 ∷ 59914 ∷ 12936 ∷ 35561 ∷ []

unfoldable pub eight : List ℕ
eight = 0 ∷ 15796 ∷ 31592 ∷ 18140 ∷ 63184 ∷ 52068 ∷ 36280 ∷ 45068 ∷ 64897 ∷ 49205 ∷ 34537 ∷ 47965 ∷ 2897 ∷ 14053 ∷ 28729 ∷ 19853 ∷ 0 ∷ 18387 ∷ 36774 ∷ 51317 ∷ 3949 ∷ 18622 ∷ 32971 ∷ 50968 ∷ 7898 ∷ 22793 ∷ 37244 ∷ 54959 ∷ 4535 ∷ 22116 ∷ 40465 ∷ 55746 ∷ []

-- the entries of all bytes
abbrev pub spread : List ℕ → List ℕ
spread t = tabulate 256 (halves t)

pub spread_entry : (t : List ℕ) (k : ℕ) → k < 256 → get_or (spread t) k 0 ≡ halves t k
spread_entry t k h = get_d_tabulate 256 (halves t) k 0 h

once_computed : spread once ≡ tabulate 256 (λ i. shifted (i * 256))
unfolding once tabulate crc_bit
once_computed = refl

twice_computed : spread twice ≡ map shifted (spread once)
unfolding twice once tabulate crc_bit
twice_computed = refl

thrice_computed : spread thrice ≡ map shifted (spread twice)
unfolding thrice twice tabulate crc_bit
thrice_computed = refl

four_computed : spread four ≡ map shifted (spread thrice)
unfolding four thrice tabulate crc_bit
four_computed = refl

five_computed : spread five ≡ map shifted (spread four)
unfolding five four tabulate crc_bit
five_computed = refl

six_computed : spread six ≡ map shifted (spread five)
unfolding six five tabulate crc_bit
six_computed = refl

seven_computed : spread seven ≡ map shifted (spread six)
unfolding seven six tabulate crc_bit
seven_computed = refl

eight_computed : spread eight ≡ map shifted (spread seven)
unfolding eight seven tabulate crc_bit
eight_computed = refl

-- Entry k of the n-th table is what n times eight shifts make of a register with byte k at its top.
abbrev pub Shifts : ℕ → List ℕ → Type 0
Shifts n t = (k : ℕ) → k < 256 → halves t k ≡ shifts n (k * 256)

pub shifts_next : (n : ℕ) (t u : List ℕ) → Shifts n t → spread u ≡ map shifted (spread t) → Shifts (suc n) u
unfolding shifts crc_bit
shifts_next n t u before e k h =
    sym (spread_entry u k h) ∙ ap (λ (l : List ℕ). get_or l k 0) e ∙ get_or-map shifted (spread t) k 0 ∙ ap shifted (spread_entry t k h ∙ before k h)

pub once_entry : Shifts 1 once
unfolding shifts
once_entry k h = sym (spread_entry once k h) ∙ ap (λ (l : List ℕ). get_or l k 0) once_computed ∙ get_d_tabulate 256 (λ i. shifted (i * 256)) k 0 h

pub twice_entry : Shifts 2 twice
twice_entry = shifts_next 1 once twice once_entry twice_computed

pub thrice_entry : Shifts 3 thrice
thrice_entry = shifts_next 2 twice thrice twice_entry thrice_computed

pub four_entry : Shifts 4 four
four_entry = shifts_next 3 thrice four thrice_entry four_computed

pub five_entry : Shifts 5 five
five_entry = shifts_next 4 four five four_entry five_computed

pub six_entry : Shifts 6 six
six_entry = shifts_next 5 five six five_entry six_computed

pub seven_entry : Shifts 7 seven
seven_entry = shifts_next 6 six seven six_entry seven_computed

pub eight_entry : Shifts 8 eight
eight_entry = shifts_next 7 seven eight seven_entry eight_computed
