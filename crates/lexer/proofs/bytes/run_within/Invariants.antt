use mathlib.Core.Path.{◌≡◌}
use Prim.Native.Nat.{◌+◌, ◌-◌, ◌≤◌}
use lib.ListN.{drop}
use Rattle.pcrl.specs.Tokens.{run}
use Rattle.lexer.specs.Classes.{in_classes}
use Rattle.lexer.proofs.bytes.run_within.Given as goal

abbrev pub invariant-loop-i : goal.invariant-loop-i
invariant-loop-i l = (l.at ≤ l.i) × (l.i ≤ l.end) × (l.i - l.at + run (in_classes l.lo l.hi) (drop l.i l.s) ≡ run (in_classes l.lo l.hi) (drop l.at l.s))
