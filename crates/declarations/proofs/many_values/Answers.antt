-- The size of one sort, or the product of two.
use native.Mathlib.Omega.{arith}
use mathlib.Core.Path.{ap₂, ◌∙◌}
use Prim.Native.Nat.{ℕ, ◌*◌}
use Rattle.declarations.proofs.Functions.{one_sort, two_sorts}
use Rattle.declarations.proofs.many_values.Goals as goal

pub returns-then-sorts-lt2 : goal.returns-then-sorts-lt2
returns-then-sorts-lt2 c = let a = c.args in (omega (arith, c.wide.ensures.1), λ S s g k r e. c.wide.ensures.0 ∙ c.size_at-x.ensures ∙ one_sort S s a.funcs.now k g r a.sorts.now e (omega arith))

pub returns : goal.returns
returns c = let a = c.args in (c.product.ensures.1, λ S s g k r e. c.product.ensures.0 ∙ ap₂ (λ (x y : ℕ). x * y) c.size_at-x.ensures c.size_at.ensures ∙ two_sorts S s a.funcs.now k g r a.sorts.now e (omega arith))
