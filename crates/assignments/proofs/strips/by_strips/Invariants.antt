use Prim.Native.Nat.{ℕ, ◌-◌, ◌≤◌, ◌<◌}
use mathlib.Core.Path.{◌≡◌}
use lib.ListN.{length}
use Rattle.evaluation.specs.Rows.{Marked, Zeros}
use Rattle.assignments.specs.Places.{digits_of}
use Rattle.assignments.specs.Conditions.{env}
use Rattle.assignments.specs.Parting.{part_met, Part}
use Rattle.assignments.proofs.Passing.{Going}
use Rattle.assignments.proofs.strips.by_strips.Given as goal

abbrev pub invariant-loop-j : goal.invariant-loop-j
invariant-loop-j l = ((l.from ≤ l.j) × (l.left ≤ l.k)) × (((length l.rows ≡ length l.initial.rows) × ((length l.marks ≡ length l.initial.marks) × ((length l.slow ≡ length l.initial.slow) × ((length l.fast ≡ length l.initial.fast) × (length l.met ≡ length l.initial.met))))) × (((i : ℕ) → i < l.c.count → Part l.space.s.now l.space.p l.space.z.at l.c.froms l.c.ends l.c.blocks l.g i) → Marked l.initial.rows l.initial.marks → Zeros l.initial.rows → Marked l.rows l.marks × (Zeros l.rows × Going (λ i. part_met l.space.s.now l.space.funcs.now l.c.froms l.c.ends l.c.blocks l.c.count (env l.space.p l.space.params.at (digits_of l.space.z.at i))) l.to l.from l.k l.j l.left)))

abbrev pub decreases-loop-j : goal.decreases-loop-j
decreases-loop-j l = l.to - l.j
