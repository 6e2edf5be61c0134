use mathlib.Core.Path.{◌≡◌}
use Prim.Native.Nat.{◌-◌, ◌<◌, ◌≤◌}
use lib.ListN.{drop, length}
use Rattle.pcrl.specs.Bytes.{name_byte}
use Rattle.pcrl.specs.Limits.{max_name}
use Rattle.pcrl.specs.Reader.{counted, one, times}
use Rattle.pcrl.specs.Tests.{T?, between?}
use Rattle.terms.specs.Ends.{rests}
use Rattle.action_names.proofs.read_run.Given as goal

abbrev pub invariant-loop-i : goal.invariant-loop-i
invariant-loop-i l = (l.i ≤ length l.s) × (l.at < length l.s)
    × (rests (counted (between? 1 max_name) (one (λ b. T? (name_byte b))) (drop l.at l.s)) ≡ rests (times (one (λ b. T? (name_byte b))) (l.end - l.i) (drop l.i l.s)))
