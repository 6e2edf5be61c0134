-- What the writers of lines write, by the names of sorts and how many times each letter is repeated.
use Rattle.std.specs.Prelude.{List, [], ◌++◌, map, ℕ, zero, suc}
use Rattle.pcrl.specs.Text.{bytes, byte, decimal}
use Rattle.rendering.specs.Texts.{joined_text}
use Rattle.lettering.specs.Named.{funcs_place, lettered_by, sort_by}

abbrev pub sort_line_by : List ℕ → ℕ → ℕ → List ℕ
sort_line_by l D size = bytes "sort " ++ (sort_by l D ++ (bytes " " ++ (decimal size ++ bytes ";")))

unfoldable pub takes_by : List ℕ → List ℕ → List ℕ
takes_by l Ds = joined_text (bytes "#") (map (sort_by l) Ds)

-- a function's line up to the sort that it gives
abbrev pub func_head_by : List ℕ → ℕ → List ℕ → List ℕ
func_head_by l f Ds = bytes "func " ++ (lettered_by l (byte "f") funcs_place f ++ (bytes ":" ++ (takes_by l Ds ++ bytes "->")))

-- a colon where something follows
unfoldable pub colon_before : ℕ → List ℕ
colon_before zero = []
colon_before (suc n) = bytes ":"
