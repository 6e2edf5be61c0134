use Prim.Native.Nat.{◌*◌, ◌≤◌}
use Rattle.pcrl.specs.Blocks.{concatenated}
use Rattle.nodes.specs.Held.{proc_width}
use Rattle.emit.specs.Putting.{PutsTo}
use Rattle.emit.specs.Bytes.{row_bytes}
use Rattle.parts.proofs.sheet_parts.put_written.Given as goal

abbrev pub invariant-loop-k : goal.invariant-loop-k
invariant-loop-k l = (l.k ≤ l.n) × PutsTo (concatenated l.k (λ j. row_bytes l.procs (proc_width * j))) l.w l.initial.out l.v l.out
