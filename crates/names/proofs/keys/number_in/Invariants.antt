use Prim.Native.Nat.{◌+◌, ◌-◌}
use Rattle.names.specs.NameCells.{name_at}
use Rattle.names.specs.NameList.{names_in}
use Rattle.names.proofs.KeyLaws.{Along}
use Rattle.names.proofs.keys.number_in.Given as goal

abbrev pub invariant-loop-i : goal.invariant-loop-i
invariant-loop-i l = Along l.s (names_in l.declared) l.lo l.count (name_at l.s l.c) l.i

abbrev pub decreases-loop-i : goal.decreases-loop-i
decreases-loop-i l = l.lo + l.count - l.i
