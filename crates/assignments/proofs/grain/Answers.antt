-- Variables below p are parameters and change in no block.
use native.Mathlib.Omega.{arith}
use Prim.Native.Nat.{ℕ, ◌-◌}
use mathlib.Core.Path.{◌≡◌, ◌∙◌, ap}
use lib.ListN.{drop}
use Rattle.assignments.specs.Places.{product}
use Rattle.assignments.proofs.grain.Goals as goal

pub returns-then-h-p : goal.returns-then-h-p
returns-then-h-p c = let z : 0 ≡ c.args.h - c.args.p = omega (arith, c.if-h-p.true) in (c.block_size.ensures.0 ∙ ap (λ (l : ℕ). product (drop l c.args.sizes.at)) z, c.block_size.ensures.1)
