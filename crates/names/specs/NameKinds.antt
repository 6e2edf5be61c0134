-- All declared names in one list of cells, kind after kind; Bool stands in no cell.
use Rattle.std.specs.Prelude.{List, ◌∷◌, ℕ, ◌+◌}
use Rattle.pcrl.specs.Text.{bytes}
use Rattle.pcrl.specs.Tree.{Name}
use Rattle.names.specs.NameKeys.{names_from}
use Rattle.names.specs.declared.Kinds.{Kinds}

abbrev pub total_of : Kinds → ℕ
total_of k = k.sorts + k.funcs + k.acts + k.procs

-- the names of each kind, where s are the sheet's bytes
unfoldable pub sorts_in : List ℕ → List ℕ → Kinds → List Name
sorts_in s names k = bytes "Bool" ∷ names_from s names 0 k.sorts

unfoldable pub funcs_in : List ℕ → List ℕ → Kinds → List Name
funcs_in s names k = names_from s names k.sorts k.funcs

unfoldable pub acts_in : List ℕ → List ℕ → Kinds → List Name
acts_in s names k = names_from s names (k.sorts + k.funcs) k.acts

unfoldable pub procs_in : List ℕ → List ℕ → Kinds → List Name
procs_in s names k = names_from s names (k.sorts + k.funcs + k.acts) k.procs
