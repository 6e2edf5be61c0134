-- A size is at most 16.
use native.Mathlib.Omega.{arith}
use Rattle.assignments.proofs.Counter.{product_le}
use mathlib.Core.Path.{refl}
use Rattle.assignments.proofs.times.Goals as goal

pub overflow_mul-result : goal.overflow_mul-result
overflow_mul-result c = omega (arith, product_le c.args.a c.args.b 16 4096 c.requires.0 c.requires.1)

pub returns : goal.returns
returns c = (refl, omega (arith, product_le c.args.a c.args.b 16 c.args.b c.requires.0 (omega arith)))
