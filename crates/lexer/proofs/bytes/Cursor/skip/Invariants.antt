use mathlib.Core.Path.{◌≡◌}
use Prim.Native.Nat.{◌+◌, ◌-◌, ◌≤◌}
use lib.ListN.{length, drop}
use Rattle.pcrl.specs.Bytes.{separator}
use Rattle.pcrl.specs.Tokens.{run}
use Rattle.lexer.proofs.bytes.Cursor.skip.Given as goal

abbrev pub invariant-loop-at : goal.invariant-loop-at
invariant-loop-at l = (l.start ≤ l.at) × (l.at + run separator (drop l.at l.s) ≡ l.start + run separator (drop l.start l.s))

abbrev pub decreases-loop-at : goal.decreases-loop-at
decreases-loop-at l = length l.s - l.at
