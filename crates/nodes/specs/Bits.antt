-- Sets of small numbers, as the bits of a number.
use Rattle.std.specs.Prelude.{Bool, true, false, ℕ, zero, suc, ◌%◌, ◌/◌}

unfoldable pub odd : ℕ → Bool
odd zero = false
odd (suc x) = true

-- sets are of numbers below this
abbrev pub set_width : ℕ
set_width = 32

-- the bit i of m
unfoldable pub bit : ℕ → ℕ → Bool
bit zero m = odd (m % 2)
bit (suc i) m = bit i (m / 2)
