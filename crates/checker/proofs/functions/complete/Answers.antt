-- `complete`: as many values as the sorts ask for, each below the size of the sort that it gives.
use Prim.Native.Nat.{ℕ}
use native.Mathlib.Omega.{arith}
use mathlib.Core.Path.{ap, subst₂, ◌∙◌}
use Rattle.pcrl.specs.Sheet.{size}
use Rattle.checker.specs.Sorts.{AllBelow}
use Rattle.checker.proofs.FunctionValues.{incomplete, complete_says}
use Rattle.checker.proofs.functions.complete.Goals as goal

pub returns-then-from-volume : goal.returns-then-from-volume
returns-then-from-volume c = incomplete c.args.funcs.now c.args.f c.args.values.now c.args.places.now c.args.sizes.now c.args.sorts c.volume.result c.volume.ensures.volume_is (λ z. omega (arith, c.cell-from.ensures.0, c.cell-to.ensures.0))

pub returns : goal.returns
returns c = complete_says c.args.funcs.now c.args.f c.args.values.now c.args.places.now c.args.sizes.now c.args.sorts c.volume.result c.volume.ensures.volume_is (omega (arith, c.cell-from.ensures.0, c.cell-to.ensures.0)) c.size_of.result (λ S k. c.size_of.ensures.value S k ∙ ap (size S) c.cell-gives.ensures.0) c.all_below.result (subst₂ (λ (x y : ℕ). AllBelow c.args.values.now x y c.size_of.result c.all_below.result) c.cell-from.ensures.0 c.cell-to.ensures.0 c.all_below.ensures)
