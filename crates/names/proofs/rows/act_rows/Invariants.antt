use mathlib.Core.Path.{◌≡◌}
use Prim.Native.Nat.{◌-◌}
use lib.ListN.{length}
use Rattle.names.proofs.ActLines.{ActsGone}
use Rattle.names.proofs.rows.act_rows.Given as goal

abbrev pub invariant-loop-i : goal.invariant-loop-i
invariant-loop-i l = (length l.rows ≡ length l.initial.rows) × ActsGone l.s l.cells l.sorts l.acts l.rows l.i
