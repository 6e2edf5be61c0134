use Prim.Native.Nat.{◌≤◌}
use Rattle.emit.specs.Putting.{PutsTo}
use Rattle.emit.specs.Bytes.{part}
use Rattle.emit.proofs.bytes.copy.Given as goal

abbrev pub invariant-loop-i : goal.invariant-loop-i
invariant-loop-i l = (l.i ≤ l.n) × PutsTo (part l.s l.a l.i) l.w l.initial.out l.v l.out
