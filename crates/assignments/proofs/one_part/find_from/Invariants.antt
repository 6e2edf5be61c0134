use Prim.Native.Nat.{ℕ, ◌+◌, ◌-◌, ◌≤◌, ◌<◌}
use mathlib.Core.Path.{◌≡◌}
use lib.ListN.{drop}
use Rattle.assignments.specs.Places.{product, digits_of}
use Rattle.assignments.specs.Conditions.{env}
use Rattle.assignments.specs.Parting.{part_met, Part}
use Rattle.assignments.proofs.Passing.{Going}
use Rattle.assignments.proofs.one_part.find_from.Given as goal

abbrev pub invariant-loop-j : goal.invariant-loop-j
invariant-loop-j l = (l.left ≤ l.k) × ((level : ℕ) → l.g ≡ product (drop level l.space.z.at) → ((i : ℕ) → i < l.c.count → Part l.space.s.now l.space.p l.space.z.at l.c.froms l.c.ends l.c.blocks l.g i) → Going (λ i. part_met l.space.s.now l.space.funcs.now l.c.froms l.c.ends l.c.blocks l.c.count (env l.space.p l.space.params.at (digits_of l.space.z.at i))) l.to l.from l.k l.j l.left)

abbrev pub decreases-loop-j : goal.decreases-loop-j
decreases-loop-j l = (l.to - l.j) + (l.to - l.start)
