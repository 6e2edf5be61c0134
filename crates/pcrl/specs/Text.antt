-- The bytes of a text of ASCII, and of a number.
use Rattle.std.specs.Prelude.{List, ◌++◌, true, false, ℕ, zero, suc, ◌+◌, ◌/◌, ◌%◌, ltb}
use Prim.Native.Char.{Char, code}
use Prim.Native.String.{String, [], ◌∷◌}

abbrev pub bytes : String → List ℕ
bytes [] = List.[]
bytes (c ∷ s) = List.◌∷◌ (code c) (bytes s)

-- the byte of a character
abbrev pub byte : Char → ℕ
byte c = code c

-- a number in decimal; f bounds how many digits it has
unfoldable pub digits : ℕ → ℕ → List ℕ
digits zero n = List.[]
digits (suc f) n =
    elim (ltb n 10) [ true ↦ List.◌∷◌ (byte "0" + n) List.[] | false ↦ digits f (n / 10) ++ List.◌∷◌ (byte "0" + n % 10) List.[] ]

unfoldable pub decimal : ℕ → List ℕ
decimal n = digits (suc n) n
