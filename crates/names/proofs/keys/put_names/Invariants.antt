use Prim.Native.Nat.{◌-◌, ◌≤◌}
use mathlib.Core.Path.{◌≡◌}
use lib.ListN.{length}
use Rattle.names.specs.NameKeys.{key_count}
use Rattle.names.specs.NameList.{list_cells}
use Rattle.names.proofs.ListLaws.{Cleared, ListedFrom}
use Rattle.names.proofs.keys.put_names.Given as goal

abbrev pub invariant-loop-j : goal.invariant-loop-j
invariant-loop-j l = (length l.declared ≡ list_cells) × (l.j ≤ key_count) × Cleared l.declared l.n l.j

abbrev pub invariant-loop-i : goal.invariant-loop-i
invariant-loop-i l = (l.i ≤ l.n) × ListedFrom l.s l.names l.declared l.n l.i
