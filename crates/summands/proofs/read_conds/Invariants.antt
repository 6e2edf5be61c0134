use mathlib.Core.Path.{◌≡◌}
use Prim.Native.Nat.{◌-◌}
use lib.ListN.{drop}
use Rattle.pcrl.specs.Decode.{read_cond}
use Rattle.pcrl.specs.Limits.{max_conditions}
use Rattle.pcrl.specs.Reader.{counted, times}
use Rattle.pcrl.specs.Sheet.{Sig}
use Rattle.pcrl.specs.Tests.{at_most?}
use Rattle.terms.specs.Ends.{rests}
use Rattle.terms.specs.Stands.{KnownData}
use Rattle.summands.proofs.read_conds.Given as goal

abbrev pub invariant-loop : goal.invariant-loop
invariant-loop l = (S : Sig) → KnownData S l.s l.sizes l.funcs → rests (counted (at_most? max_conditions) (read_cond S l.scope) (drop l.at l.s)) ≡ rests (times (read_cond S l.scope) (l.n - l.counter) (drop l.i l.s))
