use mathlib.Core.Path.{◌≡◌}
use Prim.Native.Nat.{◌-◌, ◌<◌, ◌≤◌}
use lib.ListN.{drop, get_or, length, take}
use Rattle.pcrl.specs.Decode.{read_action}
use Rattle.pcrl.specs.Limits.{max_actions}
use Rattle.pcrl.specs.Reader.{counted, times}
use Rattle.pcrl.specs.Stream.{encode_action}
use Rattle.pcrl.specs.Tests.{at_most?}
use Rattle.terms.proofs.Laying.{Laying}
use Rattle.signature.proofs.read_acts.Given as goal

abbrev pub invariant-loop-k : goal.invariant-loop-k
invariant-loop-k l = (l.k ≤ l.n) × (length l.acts ≡ length l.initial.acts) × (l.n ≤ length l.acts) × (length l.s < 65536) × (l.n ≡ get_or l.s l.at 0) × (l.n ≤ max_actions)
    × Laying (counted (at_most? max_actions) (read_action l.sizes) (drop l.at l.s)) (times (read_action l.sizes) (l.n - l.k) (drop l.i l.s)) encode_action l.s (take l.k l.acts)
