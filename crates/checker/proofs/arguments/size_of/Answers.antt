-- `size_of` is the size of a sort, 0 for a number that is none.
use native.Mathlib.Omega.{arith}
use mathlib.Core.Path.{◌∙◌}
use Rattle.checker.proofs.EachFits.{size_inside, size_outside}
use Rattle.checker.proofs.arguments.size_of.Goals as goal

pub returns-then-sort-sorts : goal.returns-then-sort-sorts
returns-then-sort-sorts c = record { upper_bound = omega arith; value = λ S k. c.cell.ensures.0 ∙ size_inside S c.args.sizes.now c.args.sorts c.args.sort k (omega arith) }

pub returns-else-sort-sorts : goal.returns-else-sort-sorts
returns-else-sort-sorts c = record { upper_bound = omega arith; value = λ S k. size_outside S c.args.sizes.now c.args.sorts c.args.sort k (omega arith) }
