-- The rows of new equations: where the part stands in the cells, how many variables are in scope, and those that are free in it, as bits.
use Rattle.std.specs.Prelude.{◌≡◌, List, [], ◌++◌, true, ℕ, ◌+◌, ◌*◌, ◌≤◌, ◌<◌, length, drop, get_or}
use Rattle.pcrl.specs.Sheet.{delta}
use Rattle.pcrl.specs.Parts.{NewPart, marks, count, marked}
use Rattle.pcrl.specs.Stream.{encode_numbers}
use Rattle.nodes.specs.Layout.{cell_limit, enc}
use Rattle.nodes.specs.Scoped.{max_scope}
use Rattle.marking.specs.Marks.{bits}

-- numbers of a row
abbrev pub row_width : ℕ
row_width = 3

abbrev pub no_part : NewPart
no_part = record { scope = []; term = delta }

-- row k is that of the part x
pub record RowOf (cells rows : List ℕ) (k : ℕ) (x : NewPart) : Type 0 where
  pub place : (rest : List ℕ) × (drop (get_or rows (row_width * k) 0) cells ≡ enc true x.term ++ rest)
  pub scope : get_or rows (row_width * k + 1) 0 ≡ length x.scope
  pub marks_are : bits (length x.scope) (get_or rows (row_width * k + 2) 0) ≡ marks (length x.scope) x.term
  pub count_is : count (bits max_scope (get_or rows (row_width * k + 2) 0)) ≡ count (marks (length x.scope) x.term)

-- "The new equation has as many parameters as are marked, in that order": their sorts, and these as bytes
unfoldable pub part_params : NewPart → List ℕ
part_params x = marked (marks (length x.scope) x.term) x.scope

unfoldable pub params_bytes : NewPart → List ℕ
params_bytes x = encode_numbers (part_params x)

-- the rows below k stay
pub record RowsKept (rows : List ℕ) (k : ℕ) (rows' : List ℕ) : Type 0 where
  pub same : length rows' ≡ length rows
  pub below : (j : ℕ) → j < row_width * k → get_or rows' j 0 ≡ get_or rows j 0

-- row k is written, if there is room for it
pub record RowPut (rows : List ℕ) (k place scope bits : ℕ) (rows' : List ℕ) : Type 0 where
  pub kept : RowsKept rows k rows'
  pub place_put : row_width * (k + 1) ≤ length rows → place < cell_limit → get_or rows' (row_width * k) 0 ≡ place
  pub scope_put : row_width * (k + 1) ≤ length rows → scope < cell_limit → get_or rows' (row_width * k + 1) 0 ≡ scope
  pub bits_put : row_width * (k + 1) ≤ length rows → get_or rows' (row_width * k + 2) 0 ≡ bits

-- the first rows from k on are those of the parts
pub record RowsOf (cells rows : List ℕ) (k : ℕ) (xs : List NewPart) : Type 0 where
  pub each : (j : ℕ) → j < length xs → RowOf cells rows (k + j) (get_or xs j no_part)
