use mathlib.Core.Path.{◌≡◌}
use mathlib.Core.List.{List}
use Prim.Native.Nat.{◌-◌, ℕ}
use lib.ListN.{drop}
use Rattle.pcrl.specs.Decode.{read_call}
use Rattle.pcrl.specs.Limits.{max_calls}
use Rattle.pcrl.specs.Reader.{counted, times}
use Rattle.pcrl.specs.Sheet.{Sig}
use Rattle.pcrl.specs.Tests.{at_most?}
use Rattle.terms.specs.Ends.{rests}
use Rattle.terms.specs.Stands.{KnownData, KnownParams}
use Rattle.summands.proofs.read_calls.Given as goal

abbrev pub invariant-loop : goal.invariant-loop
invariant-loop l = (S : Sig) (Ps : List (List ℕ)) → KnownData S l.s l.sizes l.funcs → KnownParams Ps l.s l.params → rests (counted (at_most? max_calls) (read_call S Ps l.scope) (drop l.at l.s)) ≡ rests (times (read_call S Ps l.scope) (l.n - l.counter) (drop l.i l.s))
