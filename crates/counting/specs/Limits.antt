-- How far heads are counted, and how counts stand in rows.
use Rattle.std.specs.Prelude.{ℕ, min, List, take, drop}
use Rattle.pcrl.specs.Limits.{max_processes}

-- from this on counts are not told apart: a table has fewer summands and fewer equations
abbrev pub most_heads : ℕ
most_heads = 256

-- a row of counts for each number of calls that may still be followed, from none to one more than there are processes
abbrev pub row_width : ℕ
row_width = max_processes

abbrev pub max_fuel : ℕ
max_fuel = 17

abbrev pub counts_room : ℕ
counts_room = 288

unfoldable pub cut : ℕ → ℕ
cut x = min most_heads x

-- the row that begins at `base`
unfoldable pub row : ℕ → List ℕ → List ℕ
row base counts = take row_width (drop base counts)
