-- A label as a record of fixed size, in bytes: so an answer says it (`wizbratel_label` of the header).
use Rattle.std.specs.Prelude.{List, [], ◌∷◌, ◌++◌, ℕ, zero, suc, length, get_or}
use Rattle.pcrl.specs.Limits.{max_name, max_sort_name, max_arity}
use Rattle.pcrl.specs.Text.{bytes}
use Rattle.pcrl.specs.Tree.{Name}
use Rattle.pcrl.specs.Label.{Label, silent, named}

-- the first n of a list, zeros where it is shorter
unfoldable pub filled : ℕ → List ℕ → List ℕ
filled zero l = []
filled (suc n) [] = 0 ∷ filled n []
filled (suc n) (b ∷ l) = b ∷ filled n l

-- a name of at most so many bytes: its length, and the name, ended by a zero byte at least
unfoldable pub name_field : ℕ → Name → List ℕ
name_field most n = length n ∷ filled (suc most) n

-- no action is named `tau`
unfoldable pub label_name : Label → Name
label_name silent = bytes "tau"
label_name (named n Ds vs) = n

unfoldable pub label_sorts : Label → List Name
label_sorts silent = []
label_sorts (named n Ds vs) = Ds

unfoldable pub label_values : Label → List ℕ
label_values silent = []
label_values (named n Ds vs) = vs

-- the bytes of a record: 1 + 2 + 18 + 20 + 20
abbrev pub label_bytes : ℕ
label_bytes = 61

-- How many values there are, two values, the name, the names of two sorts; zeros for what is not there.
unfoldable pub label_record : Label → List ℕ
label_record l =
    length (label_values l) ∷ (filled max_arity (label_values l)
    ++ (name_field max_name (label_name l) ++ (name_field max_sort_name (get_or (label_sorts l) 0 []) ++ name_field max_sort_name (get_or (label_sorts l) 1 []))))
