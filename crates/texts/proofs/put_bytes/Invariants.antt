use Prim.Native.Nat.{◌≤◌}
use lib.ListN.{length, take}
use Rattle.texts.specs.Wrote.{Wrote}
use Rattle.texts.proofs.put_bytes.Given as goal

abbrev pub invariant-loop-i : goal.invariant-loop-i
invariant-loop-i l = (l.i ≤ length l.s) × Wrote l.initial.out l.at (take l.i l.s) l.out l.p
