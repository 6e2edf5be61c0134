use mathlib.Core.List.{List, map}
use mathlib.Core.Path.{◌≡◌}
use Prim.Native.Nat.{ℕ, ◌≤◌, max}
use lib.ListN.{drop}
use Rattle.pcrl.specs.Limits.{max_open}
use Rattle.pcrl.specs.Tokens.{most_open}
use Rattle.lexer.specs.Cells.{cell_token}
use Rattle.lexer.proofs.brackets.shallow.Given as goal

abbrev pub invariant-loop-c : goal.invariant-loop-c
invariant-loop-c l = (l.count ≤ max_open) × ((s : List ℕ) → max max_open (most_open l.count (map (cell_token s) (drop l.c-index l.cells))) ≡ max max_open (most_open 0 (map (cell_token s) l.cells)))
