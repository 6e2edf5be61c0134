-- The loop's invariant: the values passed fit.
use native.Mathlib.Omega.{arith}
use mathlib.Core.Path.{sym, subst}
use Prim.Native.Nat.{ℕ}
use native.Mathlib.Decide.{ℕ_discrete}
use lib.ListN.{get_or}
use Rattle.laws.specs.Says.{said_yes, said_no}
use Rattle.stacks.specs.Fitting.{FitsAt}
use Rattle.stacks.proofs.fitting.Goals as goal

pub returns-then-values-sorts : goal.returns-then-values-sorts
returns-then-values-sorts c = λ f. omega (arith, f.0)

pub loop-i-init : goal.loop-i-init
loop-i-init c = (omega arith, (omega arith, λ j w. absurd (omega arith)))

pub returns-then-not-fits : goal.returns-then-not-fits
returns-then-not-fits c = λ f. said_no c.fits.result c.fits.ensures c.if-not-fits.true (f.1 c.loop-i.i (omega arith))

pub loop-i-preserved : goal.loop-i-preserved
loop-i-preserved c =
    let a = c.args in
    let l = c.loop-i in (
      omega arith,
      (
        l.invariant.1.0,
        λ j w. elim (ℕ_discrete j l.i) [
          | yes e ↦ subst (λ (x : ℕ). FitsAt a.sizes.now a.sorts.now x (get_or a.values.now x 0)) (sym e) (said_yes c.fits.result c.fits.ensures c.if-not-fits.false)
          | no n ↦ l.invariant.1.1 j (omega arith)
        ],
      ),
    )

pub returns : goal.returns
returns c = (c.loop-i.invariant.1.0, λ i w. c.loop-i.invariant.1.1 i (omega arith))
