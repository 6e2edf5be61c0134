-- A byte for each row at the most.
use mathlib.Core.Path.{refl}
use native.Mathlib.Omega.{arith}
use Rattle.initial.proofs.Functions.{product_small}
use Rattle.initial.proofs.row.Goals as goal

pub overflow_mul-result : goal.overflow_mul-result
overflow_mul-result c = let a = c.args in let h = c.requires in omega (arith, product_small a.x a.n h.0 h.1)

pub overflow_add-result : goal.overflow_add-result
overflow_add-result c = let a = c.args in let h = c.requires in omega (arith, product_small a.x a.n h.0 h.1)

pub returns : goal.returns
returns c = let a = c.args in let h = c.requires in (refl, omega (arith, product_small a.x a.n h.0 h.1))
