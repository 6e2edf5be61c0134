use mathlib.Core.List.{map}
use mathlib.Core.Path.{◌≡◌}
use Prim.Native.Nat.{◌-◌, ◌≤◌}
use lib.ListN.{length, take}
use Rattle.pcrl.specs.Tokens.{tokens}
use Rattle.lexer.specs.Cells.{cell_token}
use Rattle.lexer.proofs.Scan.{from, glue}
use Rattle.lexer.proofs.tokens.tokens.Given as goal

abbrev pub invariant-loop-cursor : goal.invariant-loop-cursor
invariant-loop-cursor l = (l.n ≤ l.cursor.at) × (l.cursor.at ≤ length l.sheet) × (length l.out ≡ length l.initial.out) × (tokens l.sheet ≡ glue (map (cell_token l.sheet) (take l.n l.out)) (from l.sheet l.cursor.at))

abbrev pub decreases-loop-cursor : goal.decreases-loop-cursor
decreases-loop-cursor l = length l.sheet - l.cursor.at
