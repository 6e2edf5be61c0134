use Prim.Native.Nat.{◌+◌, ◌-◌, ◌*◌, ◌≤◌}
use Rattle.pcrl.specs.Limits.{max_stream}
use Rattle.firing.proofs.Skipping.{Skipped}
use Rattle.firing.proofs.past.Given as goal

abbrev pub invariant-loop-i : goal.invariant-loop-i
invariant-loop-i l = (l.i ≤ l.n) × ((l.a ≤ max_stream * 3 + 2 + l.i) × Skipped l.s l.funcs l.acts l.params l.at l.n l.a l.i)
