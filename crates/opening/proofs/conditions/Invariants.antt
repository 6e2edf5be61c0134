use Prim.Native.Nat.{◌+◌, ◌-◌, ◌≤◌}
use mathlib.Core.Path.{◌≡◌}
use lib.ListN.{length}
use Rattle.pcrl.specs.Limits.{max_stream, max_conditions}
use Rattle.opening.proofs.Standing.{Gone}
use Rattle.opening.proofs.conditions.Given as goal

abbrev pub invariant-loop-i : goal.invariant-loop-i
invariant-loop-i l = (l.i ≤ l.n) × ((l.a ≤ max_stream + max_stream + 1 + l.i) × ((length l.froms ≡ max_conditions) × ((length l.ends ≡ max_conditions) × ((length l.blocks ≡ max_conditions) × Gone l.s l.funcs l.at l.p l.z.at l.n l.froms l.ends l.blocks l.reach l.low l.a l.i))))
