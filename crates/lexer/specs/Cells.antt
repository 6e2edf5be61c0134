-- Tokens as cells, one number a token: a mark of one byte is its byte; -> <| |> == /\ \/ are 128 to 133; the words 160 to 167;
-- a numeral is 256 + its value; a name is 1024 + the place of its first byte in the sheet.
use Rattle.std.specs.Prelude.{◌≡◌, ◌≢◌, List, [], ◌∷◌, map, true, false, ℕ, ◌+◌, ◌-◌, ◌≤◌, ltb, length, take, drop, get_or}
use Rattle.std.specs.Prelude as R
use Rattle.std.proofs.Math.Option.{Option, none, some}
use Rattle.pcrl.specs.Text.{bytes}
use Rattle.pcrl.specs.Result.{Result}
use Rattle.pcrl.specs.Bytes.{name_byte}
use Rattle.pcrl.specs.Tokens.{Token, name, numeral, sign, words, front, Lexeme}
use Rattle.refusals.specs.declared.Refusal.{Refusal}
use Rattle.refusals.specs.Answered.{Answered}
use Rattle.lexer.specs.declared.Taken.{Taken}

-- where each kind of cell begins
abbrev pub first_long_mark : ℕ
first_long_mark = 128

abbrev pub first_word : ℕ
first_word = 160

abbrev pub first_numeral : ℕ
first_numeral = 256

abbrev pub first_name : ℕ
first_name = 1024

unfoldable pub long_marks : List (List ℕ)
long_marks = map bytes ("->" ∷ "<|" ∷ "|>" ∷ "==" ∷ "/\\" ∷ "\\/" ∷ [])

-- the mark or word of a cell below 256
unfoldable pub spelling : ℕ → List ℕ
spelling c =
    elim (ltb c first_long_mark) [
      | true ↦ c ∷ []
      | false ↦ elim (ltb c first_word) [ true ↦ get_or long_marks (c - first_long_mark) [] | false ↦ get_or words (c - first_word) [] ]
    ]

-- the token of a cell, where s are the sheet's bytes
unfoldable pub cell_token : List ℕ → ℕ → Token
cell_token s c =
    elim (ltb c first_numeral) [
      | true ↦ sign (spelling c)
      | false ↦ elim (ltb c first_name) [ true ↦ numeral (c - first_numeral) | false ↦ name (front name_byte (drop (c - first_name) s)) ]
    ]

-- what the reader of a token answers, against the definition's token; no cell is 0, which is read past their end
unfoldable pub Reads : List ℕ → Option Lexeme → R.Option Taken → Type 0
Reads s none R.None = Unit {0}
Reads s (some l) (R.Some t) = (t.cell ≢ 0) × (cell_token s t.cell ≡ l.0) × (t.len ≡ l.1)
Reads s none (R.Some t) = ⊥
Reads s (some l) R.None = ⊥

-- behind the place `at` of n bytes it takes a byte at least, and no more than there are
pub record Fits (n at : ℕ) (t : Taken) : Type 0 where
  pub least : 1 ≤ t.len
  pub most : at + t.len ≤ n

-- n cells at the front of out are the tokens
abbrev pub CellsOf : List ℕ → List ℕ → List Token → ℕ → Type 0
CellsOf s out ts n = (n ≡ length ts) × (map (cell_token s) (take n out) ≡ ts)

-- what the lexer answers, and the cells that it leaves at the front of out
abbrev pub Lexes : Result (List Token) → List ℕ → R.Result ℕ Refusal → List ℕ → Type 0
Lexes a s r out = Answered (CellsOf s out) a r
