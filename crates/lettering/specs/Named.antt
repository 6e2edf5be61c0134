-- The names that the printer writes: those of sorts stand in cells, and behind these how many times each letter is repeated.
use Rattle.std.specs.Prelude.{◌≡◌, List, [], ◌∷◌, ◌++◌, Bool, true, false, ℕ, zero, suc, ◌+◌, ◌*◌, ◌%◌, min, length, get_or, replicate}
use Rattle.pcrl.specs.Limits.{max_sort_name}
use Rattle.pcrl.specs.Lists.{tabulate}
use Rattle.pcrl.specs.Text.{bytes, byte, decimal}
use Rattle.pcrl.specs.Sheet.{Sig}
use Rattle.pcrl.specs.Letters.{longest_run}
use Rattle.pcrl.specs.Printer.{taken}
use Rattle.terms.specs.Stands.{list_at}
use Rattle.lettering.specs.SortNames.{name_cell, NamesIn}

-- a letter n times and an index of one byte
abbrev pub named_by : ℕ → ℕ → ℕ → List ℕ
named_by b n i = replicate n b ++ decimal (i % 256)

-- where it stands how many times f, p and v are repeated
abbrev pub funcs_place : ℕ
funcs_place = 152

abbrev pub procs_place : ℕ
procs_place = 153

abbrev pub vars_place : ℕ
vars_place = 154

-- a letter as many times as the byte at a place says, and an index
abbrev pub lettered_by : List ℕ → ℕ → ℕ → ℕ → List ℕ
lettered_by l b k i = named_by b (get_or l k 0) i

-- the name of a sort
abbrev pub sort_by : List ℕ → ℕ → List ℕ
sort_by l D = list_at l (name_cell * D)

-- n names that stand at places
unfoldable pub names_at : List ℕ → List ℕ → ℕ → List (List ℕ)
names_at s places n = tabulate n (λ i. list_at s (get_or places i 0))

-- the places of the cells
abbrev pub cells : List ℕ
cells = 0 ∷ 19 ∷ 38 ∷ 57 ∷ 76 ∷ 95 ∷ 114 ∷ 133 ∷ []

-- a cell with its name
abbrev pub cell_of : List ℕ → List ℕ
cell_of n = (length n % 256) ∷ n

-- the name that the printer gave to a sort, its letter n times
unfoldable pub older_by : ℕ → ℕ → List ℕ
older_by n zero = bytes "Bool"
older_by n (suc D) = named_by (byte "s") n (suc D)

-- the name of sort D, which stands one byte behind p, or is such a name
unfoldable pub name_by : Bool → List ℕ → ℕ → ℕ → ℕ → List ℕ
name_by true s p n D = list_at s (p + 1)
name_by false s p n D = older_by n D

-- one time more than the longest run, which is no longer than a sort's name
abbrev pub once_more : ℕ → ℕ
once_more n = suc (min n max_sort_name)

-- the names of the sorts, and each letter "repeated as few times as leave no" name "beginning with that run"
pub record Lettered (S : Sig) (l : List ℕ) : Type 0 where
  pub sorts_are : NamesIn S l
  pub funcs_are : get_or l funcs_place 0 ≡ suc (longest_run (byte "f") (taken S))
  pub procs_are : get_or l procs_place 0 ≡ suc (longest_run (byte "p") (taken S))
  pub vars_are : get_or l vars_place 0 ≡ suc (longest_run (byte "v") (taken S))
