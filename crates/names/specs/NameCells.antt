-- A name's cell stands for the run of name bytes at its place in the sheet. Declared names are found through the places of their lines.
use Rattle.std.specs.Prelude.{List, map, true, false, ℕ, ◌+◌, ◌-◌, min, Option, Some, None, take, drop, get_or}
use Rattle.std.proofs.Math.Option as O
use Rattle.pcrl.specs.Limits.{max_numeral}
use Rattle.pcrl.specs.Bytes.{name_byte}
use Rattle.pcrl.specs.Tokens.{front}
use Rattle.pcrl.specs.Tree.{Name}
use Rattle.lexer.specs.Cells.{first_name}

-- the name of a cell, where s are the sheet's bytes
unfoldable pub name_at : List ℕ → ℕ → Name
name_at s c = front name_byte (drop (c - first_name) s)

-- the second cell of the line at p: the name that it declares
abbrev pub name_cell : List ℕ → ℕ → ℕ
name_cell cells p = get_or cells (p + 1) 0

unfoldable pub declared_at : List ℕ → List ℕ → ℕ → Name
declared_at s cells p = name_at s (name_cell cells p)

-- the names that the first n lines declare
unfoldable pub names_at : List ℕ → List ℕ → List ℕ → ℕ → List Name
names_at s cells places n = map (declared_at s cells) (take n places)

-- the names of the first n cells of a scope
unfoldable pub scope_at : List ℕ → List ℕ → ℕ → List Name
scope_at s scope n = map (name_at s) (take n scope)

-- a number that was found, or n
abbrev pub or_count : ℕ → O.Option ℕ → ℕ
or_count n O.none = n
or_count n (O.some i) = i

-- a value that was found, as code has it
abbrev pub found : {A : Type 0} → O.Option A → Option A
found O.none = None
found (O.some a) = Some a

-- a byte that names have, or 0
unfoldable pub shown : ℕ → ℕ
shown b = elim (name_byte b) [ true ↦ b | false ↦ 0 ]

-- a value in a byte; the most there is, where it does not fit
unfoldable pub byte_of : ℕ → ℕ
byte_of v = min v max_numeral
