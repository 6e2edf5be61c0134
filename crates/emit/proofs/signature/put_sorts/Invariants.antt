use Prim.Native.Nat.{◌≤◌}
use Rattle.pcrl.specs.Blocks.{concatenated}
use Rattle.emit.specs.Putting.{PutsTo}
use Rattle.emit.specs.Bytes.{sort_bytes}
use Rattle.emit.proofs.signature.put_sorts.Given as goal

abbrev pub invariant-loop-d : goal.invariant-loop-d
invariant-loop-d l = (l.d ≤ l.n) × PutsTo (concatenated l.d (sort_bytes l.s l.sizes l.names)) l.initial.v l.initial.out l.v l.out
