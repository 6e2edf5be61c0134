-- All of them pass.
use native.Mathlib.Omega.{arith}
use Rattle.std.specs.Prelude.{Err}
use Prim.Native.Nat.{ℕ, ◌-◌}
use mathlib.Core.Path.{sym, subst}
use Rattle.assignments.specs.Places.{product, places}
use Rattle.assignments.specs.Conditions.{Finds}
use Rattle.assignments.proofs.Passing.{any_found, any_past}
use Rattle.assignments.proofs.find_any.Goals as goal

pub returns-then-k-total : goal.returns-then-k-total
returns-then-k-total c = λ acc all. any_found acc _ c.args.k all (omega (arith, c.block_size-total.ensures.0))

pub returns : goal.returns
returns c = λ acc all. let z = c.block_size-total.ensures.0 in subst (λ (y : ℕ). Finds (places acc (product c.args.sizes.at) 0) c.args.k (Err (c.args.k - y))) (sym z) (any_past acc (product c.args.sizes.at) c.args.k all (omega arith))
