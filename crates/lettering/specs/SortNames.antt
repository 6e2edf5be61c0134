-- The names of a table's sorts in cells of one length: a cell begins with the name's length.
use Rattle.std.specs.Prelude.{List, ℕ, ◌*◌, ◌<◌, ◌≤◌, length}
use Rattle.pcrl.specs.Limits.{max_sort_name}
use Rattle.pcrl.specs.Sheet.{Sig, sort_name}
use Rattle.pcrl.specs.Stream.{encode_numbers}
use Rattle.terms.specs.Stands.{Stands}

-- the bytes of a cell
abbrev pub name_cell : ℕ
name_cell = 19

-- the names of the first n sorts, by their numbers
abbrev pub CellsIn : (ℕ → List ℕ) → ℕ → List ℕ → Type 0
CellsIn name n names = (D : ℕ) → D < n → Stands names (name_cell * D) (encode_numbers (name D))

-- each fits its cell
abbrev pub ShortNames : (ℕ → List ℕ) → ℕ → Type 0
ShortNames name n = (D : ℕ) → D < n → length (name D) ≤ max_sort_name

-- the names of all sorts
abbrev pub NamesIn : Sig → List ℕ → Type 0
NamesIn S names = CellsIn (sort_name S) (length S.sorts) names
