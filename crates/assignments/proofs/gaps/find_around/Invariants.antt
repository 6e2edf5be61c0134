use Prim.Native.Nat.{ℕ, ◌-◌, ◌*◌, ◌≤◌, ◌<◌}
use mathlib.Core.Path.{◌≡◌}
use lib.ListN.{drop}
use Rattle.assignments.specs.Places.{product, digits_of}
use Rattle.assignments.specs.Conditions.{env}
use Rattle.assignments.specs.Parting.{part_met, Part, Gapped}
use Rattle.assignments.proofs.Passing.{Going}
use Rattle.assignments.proofs.gaps.find_around.Given as goal

abbrev pub invariant-loop-j : goal.invariant-loop-j
invariant-loop-j l = (l.left ≤ l.k) × ((level m : ℕ) → l.g ≡ product (drop level l.space.z.at) → l.total ≡ product (drop m l.space.z.at) → ((i : ℕ) → i < l.c.count → Part l.space.s.now l.space.p l.space.z.at l.c.froms l.c.ends l.c.blocks l.g i) → Gapped l.space.s.now l.space.p l.space.z.at l.c.froms l.c.ends l.c.blocks l.c.count l.total l.w l.b → (t : ℕ) × (l.j ≡ t * l.w) × Going (λ i. part_met l.space.s.now l.space.funcs.now l.c.froms l.c.ends l.c.blocks l.c.count (env l.space.p l.space.params.at (digits_of l.space.z.at i))) l.total 0 l.k l.j l.left)
