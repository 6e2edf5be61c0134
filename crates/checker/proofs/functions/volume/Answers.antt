-- `volume`: the product of the sizes of one or two sorts.
use Prim.Native.Nat.{◌*◌}
use native.Mathlib.Omega.{arith}
use mathlib.Core.Path.{ap, ◌∙◌}
use Rattle.pcrl.specs.Sheet.{size}
use Rattle.checker.proofs.FunctionValues.{product_small, volume_one, volume_two}
use Rattle.checker.proofs.functions.volume.Goals as goal

pub returns-then-cell-lt2 : goal.returns-then-cell-lt2
returns-then-cell-lt2 c = record { upper_bound = omega arith; volume_is = volume_one c.args.funcs.now (4 * c.args.f) c.args.sizes.now c.args.sorts c.size_of-first.result (λ S k. c.size_of-first.ensures.value S k ∙ ap (size S) c.cell.ensures.0) (omega (arith, c.cell-2.ensures.0)) }

pub overflow_mul-result : goal.overflow_mul-result
overflow_mul-result c = let z = product_small c.size_of-first.result c.size_of.result c.size_of-first.ensures.upper_bound c.size_of.ensures.upper_bound in omega arith

pub returns : goal.returns
returns c = record { upper_bound = product_small c.size_of-first.result c.size_of.result c.size_of-first.ensures.upper_bound c.size_of.ensures.upper_bound; volume_is = volume_two c.args.funcs.now (4 * c.args.f) c.args.sizes.now c.args.sorts c.size_of-first.result (λ S k. c.size_of-first.ensures.value S k ∙ ap (size S) c.cell.ensures.0) (omega (arith, c.cell-2.ensures.0)) c.size_of.result (λ S k. c.size_of.ensures.value S k ∙ ap (size S) c.cell-3.ensures.0) }
