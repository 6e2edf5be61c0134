use mathlib.Core.Path.{◌≡◌}
use Prim.Native.Nat.{◌≤◌}
use lib.ListN.{drop}
use Rattle.pcrl.specs.Limits.{max_numeral}
use Rattle.pcrl.specs.Tokens.{value_of}
use Rattle.lexer.proofs.token.value_of.Given as goal

abbrev pub invariant-loop-b : goal.invariant-loop-b
invariant-loop-b l = (l.v ≤ max_numeral) × (value_of l.v (drop l.b-index l.t) ≡ value_of 0 l.t)
