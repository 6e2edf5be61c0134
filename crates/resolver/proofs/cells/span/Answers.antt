-- The later place less the earlier one.
use native.Mathlib.Omega.{arith}
use Rattle.resolver.proofs.cells.span.Goals as goal

pub returns-then-to-from : goal.returns-then-to-from
returns-then-to-from c = λ n e l. omega arith

pub returns : goal.returns
returns c = λ n e l. let z = c.short.ensures (omega arith) in omega arith
