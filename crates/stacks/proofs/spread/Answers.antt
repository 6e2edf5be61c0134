-- The loop's invariant: the bytes passed are written.
use native.Mathlib.Omega.{arith}
use mathlib.Core.Path.{refl, sym, ap, ◌∙◌}
use Prim.Native.Nat.{ℕ}
use native.Mathlib.Decide.{ℕ_discrete}
use lib.ListN.{get_or, set, length-set}
use lib.Seq.{get_or-set_same, get_or-set_other}
use Rattle.stacks.proofs.spread.Goals as goal

pub loop-i-init : goal.loop-i-init
loop-i-init c = (omega arith, (refl, λ j w. absurd (omega arith)))

pub loop-i-preserved : goal.loop-i-preserved
loop-i-preserved c =
    let out = c.loop-i.out in
    let i = c.loop-i.i in
    let x = c.peek.result in (
      simp length-set (omega arith),
      (
        length-set out i x ∙ c.loop-i.invariant.1.0,
        λ j w. elim (ℕ_discrete j i) [
          | yes e ↦ ap (λ (k : ℕ). get_or (set out i x) k 0) e ∙ get_or-set_same out i x 0 (omega arith) ∙ c.peek.ensures ∙ ap (λ (k : ℕ). get_or c.args.bytes.now k 0) (sym e)
          | no n ↦ get_or-set_other out i j x 0 n ∙ c.loop-i.invariant.1.1 j (omega arith)
        ],
      ),
    )

pub shape_of-out : goal.shape_of-out
shape_of-out c = c.loop-i.invariant.1.0

pub returns : goal.returns
returns c = λ i w. c.loop-i.invariant.1.1 i (omega arith)
