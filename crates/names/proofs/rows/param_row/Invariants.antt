use mathlib.Core.Path.{◌≡◌}
use Prim.Native.Nat.{◌-◌, ◌≤◌}
use lib.ListN.{length}
use Rattle.names.specs.NameList.{names_in, kinds_in}
use Rattle.names.proofs.ParamLines.{ParamsGone}
use Rattle.names.proofs.rows.param_row.Given as goal

abbrev pub invariant-loop-k : goal.invariant-loop-k
invariant-loop-k l = (l.k ≤ l.m) × (length l.row ≡ length l.initial.row) × (length l.scope ≡ length l.initial.scope) × ParamsGone l.s l.cells (names_in l.declared) (kinds_in l.declared) l.at l.row l.scope l.k
