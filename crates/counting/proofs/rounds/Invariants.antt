use Prim.Native.Nat.{◌≤◌}
use mathlib.Core.Path.{◌≡◌}
use lib.ListN.{length}
use Rattle.pcrl.specs.Sheet.{Sheet}
use Rattle.counting.specs.Limits.{row_width, counts_room}
use Rattle.counting.specs.Counting.{Placed, Tallied, Unchanged}
use Rattle.counting.proofs.rounds.Given as goal

abbrev pub invariant-loop-f : goal.invariant-loop-f
invariant-loop-f l = ((l.f ≤ l.times) × (length l.t ≡ counts_room) × Unchanged l.t l.f l.same) × ((H : Sheet) → length H.procs ≡ l.n → length H.procs ≤ row_width → Placed H l.cells l.starts → Tallied H l.f l.t)
