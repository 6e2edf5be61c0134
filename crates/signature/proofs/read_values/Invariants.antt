use mathlib.Core.Path.{◌≡◌}
use Prim.Native.Nat.{◌-◌}
use lib.ListN.{drop}
use Rattle.pcrl.specs.Reader.{one, times}
use Rattle.pcrl.specs.Tests.{below?}
use Rattle.terms.specs.Ends.{rests}
use Rattle.signature.proofs.read_values.Given as goal

abbrev pub invariant-loop : goal.invariant-loop
invariant-loop l = rests (times (one (below? l.limit)) l.n (drop l.at l.s)) ≡ rests (times (one (below? l.limit)) (l.n - l.counter) (drop l.i l.s))
