-- A table of the check: 16 entries for the upper half of a byte, then 16 for the lower one.
use Rattle.std.specs.Prelude.{List, ℕ, ◌+◌, ◌/◌, ◌%◌, get_or}
use Rattle.std.specs.Int.Bits.{bit_xor}

abbrev pub halves : List ℕ → ℕ → ℕ
halves t b = bit_xor (get_or t (b / 16) 0) (get_or t (16 + b % 16) 0)
