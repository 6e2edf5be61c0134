-- `counting::unchanged` meets its contract.
use native.Mathlib.Omega.{arith}
use Prim.Native.Nat.{ℕ}
use mathlib.Core.Path.{sym, subst, ◌∙◌}
use Rattle.counting.specs.Counting.{SameIn}
use Rattle.counting.proofs.AtHead.{same_none, same_more}
use Rattle.counting.proofs.unchanged.Goals as goal
use Rattle.counting.proofs.unchanged.Goals.{then-cell, else-cell}

pub loop-k-init : goal.loop-k-init
loop-k-init c = (omega arith, same_none c.args.t.now c.args.f)

pub loop-k-preserved : goal.loop-k-preserved
loop-k-preserved c =
    let a = c.args in
    let here = c.loop-k in (
      omega arith,
      elim c.if-cell.branch [
        | then-cell w ↦ subst (λ (x : ℕ). SameIn a.t.now a.f x) (sym w.same-is) (same_more a.t.now a.f here.k here.same w.with_bit-same.result w.with_bit-same.ensures (sym c.cell.ensures.0 ∙ w.if-cell.true ∙ c.cell-in-loop-k.ensures.0) here.invariant.1)
        | else-cell w ↦ subst (λ (x : ℕ). SameIn a.t.now a.f x) (sym w.same-is) here.invariant.1
      ],
    )

pub returns : goal.returns
returns c = c.loop-k.invariant.1
