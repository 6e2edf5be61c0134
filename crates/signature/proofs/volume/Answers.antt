-- The size of the one sort, or the product of the two.
use mathlib.Core.Path.{◌∙◌, ap}
use Prim.Native.Nat.{ℕ}
use native.Mathlib.Omega.{arith}
use lib.ListN.{get_or}
use Rattle.laws.specs.Places.{small_product}
use Rattle.signature.proofs.Funcs.{volume_one, volume_two}
use mir.Facts.{Fits-below}
use Rattle.signature.proofs.volume.Goals as goal

pub returns-then-sorts-eq1 : goal.returns-then-sorts-eq1
returns-then-sorts-eq1 c = λ h. volume_one c.args.sizes.now c.args.sorts.now c.wide-a.result c.if-sorts-eq1.true (c.wide-a.ensures.0 ∙ c.peek-2.ensures ∙ ap (λ (i : ℕ). get_or c.args.sizes.now i 0) (c.wide.ensures.0 ∙ c.peek.ensures))

pub overflow_mul-result : goal.overflow_mul-result
overflow_mul-result c = Fits-below tt (small_product c.wide-a.result c.wide-3.result (omega arith) (omega arith))

pub returns : goal.returns
returns c = λ h. volume_two c.args.sizes.now c.args.sorts.now c.wide-a.result c.wide-3.result c.if-sorts-eq1.false h (c.wide-a.ensures.0 ∙ c.peek-2.ensures ∙ ap (λ (i : ℕ). get_or c.args.sizes.now i 0) (c.wide.ensures.0 ∙ c.peek.ensures)) (c.wide-3.ensures.0 ∙ c.peek-4.ensures ∙ ap (λ (i : ℕ). get_or c.args.sizes.now i 0) (c.wide-2.ensures.0 ∙ c.peek-3.ensures))
