-- A list in the cells, read by its tags: how many items it has, and what its names and numerals are.
use Rattle.std.specs.Prelude.{List, [], ◌∷◌, true, false, ℕ, zero, suc, ◌+◌, ◌*◌, ◌-◌, eqb, get_or}
use Rattle.pcrl.specs.Tree.{Name}
use Rattle.lexer.specs.Cells.{first_numeral}
use Rattle.parser.specs.Cells.{end_tag}
use Rattle.nodes.specs.Layout.{cell_limit}
use Rattle.names.specs.NameCells.{name_at}

-- cells of an item and the tag before it: a name or a numeral, a parameter
abbrev pub name_step : ℕ
name_step = 2

abbrev pub param_step : ℕ
param_step = 3

-- no place of the cells is so far on
abbrev pub far : ℕ
far = 2 * cell_limit

-- the value of the numeral at p
abbrev pub numeral_at : List ℕ → ℕ → ℕ
numeral_at cells p = get_or cells p 0 - first_numeral

-- how many items stand from p on, each with the tag before it in so many cells; not counted past `most`
unfoldable pub item_count : List ℕ → ℕ → ℕ → ℕ → ℕ
item_count cells step p zero = 0
item_count cells step p (suc most) = elim (eqb (get_or cells p 0) end_tag) [ true ↦ 0 | false ↦ suc (item_count cells step (p + step) most) ]

-- the names of n items, from p on
unfoldable pub item_names : List ℕ → List ℕ → ℕ → ℕ → List Name
item_names s cells p zero = []
item_names s cells p (suc n) = name_at s (get_or cells (p + 1) 0) ∷ item_names s cells (p + name_step) n

-- the values of n items, from p on
unfoldable pub item_values : List ℕ → ℕ → ℕ → List ℕ
item_values cells p zero = []
item_values cells p (suc n) = numeral_at cells (p + 1) ∷ item_values cells (p + name_step) n
