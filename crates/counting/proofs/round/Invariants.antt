use Prim.Native.Nat.{◌≤◌}
use mathlib.Core.Path.{◌≡◌}
use lib.ListN.{length}
use Rattle.pcrl.specs.Sheet.{Sheet}
use Rattle.checker.specs.Circles.{HeadsOf}
use Rattle.counting.specs.Limits.{row_width, counts_room}
use Rattle.counting.specs.Counting.{Placed, Tallied, Unchanged}
use Rattle.counting.proofs.Rows.{Filled}
use Rattle.counting.proofs.round.Given as goal

abbrev pub invariant-loop-k : goal.invariant-loop-k
invariant-loop-k l = ((l.k ≤ l.n) × (length l.t ≡ counts_room)) × ((H : Sheet) → length H.procs ≡ l.n → (few : length H.procs ≤ row_width) → Placed H l.cells l.starts → HeadsOf H l.n l.sets → Unchanged l.initial.t l.f l.same → Tallied H l.f l.initial.t → Filled H few l.f l.initial.t l.t l.k)
