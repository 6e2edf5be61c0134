-- The names that are written are those of the definitions.
use mathlib.Core.Path.{◌≡◌, ap₂}
use mathlib.Core.List.{List, ◌++◌}
use Prim.Native.Nat.{ℕ, suc, ◌*◌, ◌%◌, ◌<◌}
use native.Mathlib.Omega.{arith}
use lib.ListN.{length, replicate}
use Rattle.pcrl.specs.Text.{byte, decimal}
use Rattle.pcrl.specs.Tree.{Name}
use Rattle.pcrl.specs.Letters.{longest_run, letters, indexed}
use Rattle.pcrl.specs.Sheet.{Sig, sort_name}
use Rattle.pcrl.specs.Printer.{taken, func_name, proc_name, var_name}
use Rattle.terms.specs.Stands.{list_at}
use Rattle.terms.proofs.Places.{list_is}
use Rattle.lettering.specs.SortNames.{name_cell, NamesIn}
use Rattle.lettering.specs.Named.{named_by, funcs_place, procs_place, vars_place, lettered_by, sort_by, Lettered}

-- a letter repeated as it must be, and an index of one byte
pub name_is : (names : List Name) (b n i : ℕ) → n ≡ suc (longest_run b names) → i < 256 → named_by b n i ≡ indexed names b i
unfolding indexed letters
name_is names b n i e h = let z : i % 256 ≡ i = omega arith in ap₂ (λ (m j : ℕ). replicate m b ++ decimal j) e z

-- the name in a sort's cell
pub cell_name : (S : Sig) (names : List ℕ) → NamesIn S names → (D : ℕ) → D < length S.sorts → list_at names (name_cell * D) ≡ sort_name S D
cell_name S names there D h = list_is names (name_cell * D) (sort_name S D) (there D h)

module _ (S : Sig) (l : List ℕ) (known : Lettered S l) where
  pub func_is : (i : ℕ) → i < 256 → lettered_by l (byte "f") funcs_place i ≡ func_name S i
  func_is i h = name_is (taken S) (byte "f") _ i known.funcs_are h

  pub proc_is : (i : ℕ) → i < 256 → lettered_by l (byte "p") procs_place i ≡ proc_name S i
  proc_is i h = name_is (taken S) (byte "p") _ i known.procs_are h

  pub var_is : (i : ℕ) → i < 256 → lettered_by l (byte "v") vars_place i ≡ var_name S i
  var_is i h = name_is (taken S) (byte "v") _ i known.vars_are h

  pub sort_is : (D : ℕ) → D < length S.sorts → sort_by l D ≡ sort_name S D
  sort_is D h = cell_name S l known.sorts_are D h
