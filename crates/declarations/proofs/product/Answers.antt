-- A product of two bytes.
use native.Mathlib.Omega.{arith}
use mathlib.Core.Path.{ap₂}
use Prim.Native.Nat.{ℕ, ◌*◌}
use Rattle.laws.specs.Places.{small_product}
use Rattle.declarations.proofs.product.Goals as goal

pub overflow_mul-result : goal.overflow_mul-result
overflow_mul-result c = omega (arith, small_product c.wide.result c.wide-2.result c.wide.ensures.1 c.wide-2.ensures.1)

pub returns : goal.returns
returns c = (ap₂ (λ (x y : ℕ). x * y) c.wide.ensures.0 c.wide-2.ensures.0, omega (arith, small_product c.wide.result c.wide-2.result c.wide.ensures.1 c.wide-2.ensures.1))
