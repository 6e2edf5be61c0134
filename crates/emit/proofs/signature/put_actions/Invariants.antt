use Prim.Native.Nat.{◌≤◌}
use Rattle.pcrl.specs.Blocks.{concatenated}
use Rattle.emit.specs.Putting.{PutsTo}
use Rattle.emit.specs.Bytes.{action_bytes}
use Rattle.emit.proofs.signature.put_actions.Given as goal

abbrev pub invariant-loop-i : goal.invariant-loop-i
invariant-loop-i l = (l.i ≤ l.n) × PutsTo (concatenated l.i (action_bytes l.s l.acts l.names l.b)) l.initial.v l.initial.out l.v l.out
