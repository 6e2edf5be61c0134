-- The declared names in one array of 404 cells: the cells of the names, for each the place of the next name with its key, how many there are of
-- each kind, and the place of the first name of each key.
use Rattle.std.specs.Prelude.{List, ℕ, ◌+◌, take, drop, get_or}
use Rattle.names.specs.declared.Kinds.{Kinds}
use Rattle.names.specs.NameKeys.{Keyed}
use Rattle.names.specs.NameKinds.{total_of}

abbrev pub max_names : ℕ
max_names = 72

abbrev pub first_count : ℕ
first_count = 144

abbrev pub first_place : ℕ
first_place = 148

abbrev pub list_cells : ℕ
list_cells = 404

abbrev pub names_in : List ℕ → List ℕ
names_in l = take max_names l

abbrev pub nexts_in : List ℕ → List ℕ
nexts_in l = drop max_names l

abbrev pub firsts_in : List ℕ → List ℕ
firsts_in l = drop first_place l

abbrev pub kinds_in : List ℕ → Kinds
kinds_in l = record {
  sorts = get_or l first_count 0;
  funcs = get_or l (first_count + 1) 0;
  acts = get_or l (first_count + 2) 0;
  procs = get_or l (first_count + 3) 0;
}

-- the names that are counted, with the first of each key and the next after each name
abbrev pub KeyedNames : List ℕ → List ℕ → Type 0
KeyedNames s l = Keyed s (names_in l) (nexts_in l) (firsts_in l) (total_of (kinds_in l))
