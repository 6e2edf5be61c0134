use mathlib.Core.Path.{◌≡◌}
use Prim.Native.Nat.{◌-◌, ◌≤◌}
use lib.ListN.{drop, length}
use Rattle.pcrl.specs.Reader.{one, times}
use Rattle.terms.specs.Ends.{rests}
use Rattle.terms.specs.Numbers.{from?, read_list}
use Rattle.terms.proofs.read_list.Given as goal

abbrev pub invariant-loop-i : goal.invariant-loop-i
invariant-loop-i l = (l.i ≤ length l.s) × (rests (read_list l.least l.most l.low l.limit (drop l.at l.s)) ≡ rests (times (one (from? l.low l.limit)) (l.end - l.i) (drop l.i l.s)))
