use mathlib.Core.List.{List}
use Prim.Native.Nat.{ℕ}
use Rattle.lexer.specs.Cells.{cell_token}
use Rattle.printer.specs.Watching.{Unmet}
use Rattle.printer.proofs.WatchLaws.{Watches}
use Rattle.printer.proofs.watch.apart.Given as goal

abbrev pub invariant-loop-c : goal.invariant-loop-c
invariant-loop-c l = Unmet l.state × ((s : List ℕ) → Watches (cell_token s) l.cells l.c-index l.state)
