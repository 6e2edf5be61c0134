use Prim.Native.Nat.{◌≤◌}
use Rattle.pcrl.specs.Blocks.{concatenated}
use Rattle.emit.specs.Putting.{PutsTo}
use Rattle.emit.specs.Bytes.{func_bytes}
use Rattle.emit.proofs.signature.put_funcs.Given as goal

abbrev pub invariant-loop-i : goal.invariant-loop-i
invariant-loop-i l = (l.i ≤ l.n) × PutsTo (concatenated l.i (func_bytes l.funcs l.values l.places)) l.initial.v l.initial.out l.v l.out
