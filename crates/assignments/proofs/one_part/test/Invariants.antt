use Prim.Native.Nat.{ℕ, ◌≤◌, ◌<◌}
use Rattle.assignments.specs.Conditions.{Tested}
use Rattle.assignments.specs.Parting.{Standing, asked}
use Rattle.assignments.proofs.one_part.test.Given as goal

abbrev pub invariant-loop-i : goal.invariant-loop-i
invariant-loop-i l = (l.i ≤ l.c.count) × (((m : ℕ) → m < l.c.count → Standing l.s l.c.froms l.c.ends m) → Tested (asked l.s l.funcs l.c.froms l.c.ends l.c.blocks l.e) l.c.blocks l.least l.i l.out)
