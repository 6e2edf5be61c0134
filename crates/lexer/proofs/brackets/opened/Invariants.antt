use mathlib.Core.List.{List, map}
use Prim.Native.Nat.{ℕ, ◌≤◌}
use lib.ListN.{drop}
use Rattle.pcrl.specs.Tokens.{most_open}
use Rattle.lexer.specs.Cells.{cell_token}
use Rattle.lexer.proofs.brackets.opened.Given as goal

abbrev pub invariant-loop-c : goal.invariant-loop-c
invariant-loop-c l = (l.count ≤ l.c-index) × ((s : List ℕ) → most_open 0 (map (cell_token s) l.cells) ≤ most_open l.count (map (cell_token s) (drop l.c-index l.cells)))
