-- Tokens as bytes: "Blanks stand only where two tokens would merge, line feeds nowhere."
use Rattle.std.specs.Prelude.{List, [], ◌∷◌, ◌++◌, Bool, true, false, ℕ, eqb, get_or}
use Rattle.pcrl.specs.Text.{bytes, byte, decimal}
use Rattle.pcrl.specs.Tests.{and, or, among}
use Rattle.pcrl.specs.Bytes.{digit, name_byte}
use Rattle.pcrl.specs.Tokens.{Token, name, numeral, sign, words}

-- hex 20
abbrev pub blank_byte : ℕ
blank_byte = 0x20

-- the bytes of a token
unfoldable pub write : Token → List ℕ
write (name n) = n
write (numeral v) = decimal v
write (sign w) = w

-- Would the byte b, right behind the token, be taken with it? Tokens are taken by longest match: names and words go on with letters,
-- digits and underscores, numerals with digits, `=` with `=`, and no other mark goes on.
unfoldable pub goes_on : Token → ℕ → Bool
goes_on (name n) b = name_byte b
goes_on (numeral v) b = digit b
goes_on (sign w) b = or (and (among w words) (name_byte b)) (and (among w (bytes "=" ∷ [])) (eqb b (byte "=")))

-- what stands between two tokens
unfoldable pub between : Token → Token → List ℕ
between t u = elim (goes_on t (get_or (write u) 0 0)) [ true ↦ blank_byte ∷ [] | false ↦ [] ]

-- the bytes of tokens
unfoldable pub render : List Token → List ℕ
render [] = []
render (t ∷ []) = write t
render (t ∷ u ∷ ts) = write t ++ (between t u ++ render (u ∷ ts))
