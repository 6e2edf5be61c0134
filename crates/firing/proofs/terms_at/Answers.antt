-- Each term stands where the one before it ends, and its value is written behind theirs.
use native.Mathlib.Omega.{arith}
use mathlib.Core.Path.{refl}
use lib.ListN.{length-set}
use Rattle.firing.proofs.Evaluating.{valuing_none, valuing_more, valuing_all}
use Rattle.firing.proofs.terms_at.Goals as goal

pub loop-i-init : goal.loop-i-init
loop-i-init c = let a = c.args in (omega arith, (omega arith, (refl, valuing_none a.s.now a.funcs.now a.e.now a.at a.n a.out.now)))

pub skip-end-requires : goal.skip-end-requires
skip-end-requires c = c.requires.0

pub bounds-out-i : goal.bounds-out-i
bounds-out-i c = omega (arith, c.requires.1, c.loop-i.invariant.1.1.0)

pub loop-i-preserved : goal.loop-i-preserved
loop-i-preserved c = let a = c.args in let l = c.loop-i in (
  omega arith,
  (
    omega (arith, c.skip-end.ensures.1.1, l.invariant.1.0),
    (
      simp length-set l.invariant.1.1.0,
      valuing_more a.s.now a.funcs.now a.e.now a.at a.n a.out.now l.out l.a l.i c.skip-end.result c.value.result c.loop-i-test.true c.requires.1 c.skip-end.ensures.0 c.value.ensures l.invariant.1.1.1,
    ),
  ),
)

pub shape_of-out : goal.shape_of-out
shape_of-out c = c.loop-i.invariant.1.1.0

pub returns : goal.returns
returns c = let a = c.args in let l = c.loop-i in (l.invariant.1.0, (l.invariant.1.1.0, valuing_all a.s.now a.funcs.now a.e.now a.at a.n a.out.now l.out l.a l.i (omega arith) l.invariant.1.1.1))
