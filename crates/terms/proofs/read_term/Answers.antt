-- The sorts still expected are a stack, and the budget of 31 nodes is what is left: a place of the stack for each node left.
use mathlib.Core.Path.{◌∙◌, refl, sym}
use Prim.Native.Nat.{◌+◌, ◌-◌}
use native.Mathlib.Omega.{arith}
use lib.ListN.{drop, get_or}
use Rattle.laws.specs.Says.{said_yes, said_no}
use Rattle.terms.proofs.Loop.{none_wanted, operator_bad, operator_good, term_bad, term_end, term_good, term_spent, term_start}
use Rattle.terms.proofs.Stack.{emptied, filled, top_at, pop_at}
use Rattle.terms.specs.Fitting.{NextFits}
use Rattle.terms.proofs.read_term.Goals as goal

pub loop-top-init : goal.loop-top-init
loop-top-init c = let a = c.args in (omega arith, omega arith, omega arith, refl, λ S k. term_start S a.scope.now a.sort (drop a.at a.s.now))

pub returns-then-left-eq0 : goal.returns-then-left-eq0
returns-then-left-eq0 c = λ S k.
    let a = c.args in
    let l = c.loop-top in
    l.invariant.4 S k ∙ term_spent S a.scope.now (drop l.top l.sorts) a.s.now l.i l.left (filled l.sorts l.top l.invariant.3 (omega arith)) (omega arith)

pub returns-then-s-i : goal.returns-then-s-i
returns-then-s-i c = λ S k.
    let a = c.args in
    let l = c.loop-top in
    l.invariant.4 S k ∙ term_end S a.scope.now (drop l.top l.sorts) a.s.now l.i l.left (filled l.sorts l.top l.invariant.3 (omega arith)) (omega arith)

pub returns-then-not-fits : goal.returns-then-not-fits
returns-then-not-fits c = λ S k.
    let a = c.args in
    let l = c.loop-top in
    let misfit = said_no c.fits.result (c.fits.ensures S k) c.if-not-fits.true in
    l.invariant.4 S k
    ∙ term_bad S a.scope.now (drop l.top l.sorts) a.s.now l.i l.left (filled l.sorts l.top l.invariant.3 (omega arith)) (omega arith) (omega arith) (rw (sym (top_at l.sorts l.top)) at misfit)

pub loop-top-preserved-then-wide-lt-NOT_CODE : goal.loop-top-preserved-then-wide-lt-NOT_CODE
loop-top-preserved-then-wide-lt-NOT_CODE c = (
  omega arith,
  omega arith,
  omega arith,
  omega (arith, c.after-top.auto.sorts),
  λ S k.
      let a = c.args in
      let l = c.loop-top in
      let y = said_yes c.fits.result (c.fits.ensures S k) c.if-not-fits.false in
      let y' = rw (sym (top_at l.sorts l.top)) at y in
      l.invariant.4 S k
      ∙ term_good S a.scope.now (drop l.top l.sorts) a.s.now l.i l.left (filled l.sorts l.top l.invariant.3 (omega arith)) (omega arith) (omega arith) (drop c.after-top.result c.after-top.new.sorts) (l.i + 1) (l.left - 1) (omega arith) (omega arith) y' (rw (sym (pop_at l.sorts l.top)) (c.after-top.ensures.0 S a.scope.now a.sizes.now _ k y)),
)

pub returns-then-not-operator_fits : goal.returns-then-not-operator_fits
returns-then-not-operator_fits c = λ S k.
    let a = c.args in
    let l = c.loop-top in
    let misfit = said_no c.operator_fits.result (c.operator_fits.ensures S a.scope.now k.sizes_are) c.if-not-operator_fits.true in
    l.invariant.4 S k
    ∙ operator_bad S a.scope.now (drop l.top l.sorts) a.s.now l.i l.left (filled l.sorts l.top l.invariant.3 (omega arith)) (rw (sym (top_at l.sorts l.top)) at misfit)

pub loop-top-preserved : goal.loop-top-preserved
loop-top-preserved c = (
  omega arith,
  omega arith,
  omega arith,
  omega (arith, c.operands-top.auto.sorts),
  λ S k.
      let a = c.args in
      let l = c.loop-top in
      let y = said_yes c.operator_fits.result (c.operator_fits.ensures S a.scope.now k.sizes_are) c.if-not-operator_fits.false in
      let f : NextFits S a.scope.now (get_or (drop l.top l.sorts) 0 0) (drop l.i a.s.now) = rw (top_at l.sorts l.top) y in
      l.invariant.4 S k
      ∙ operator_good S a.scope.now (drop l.top l.sorts) a.s.now l.i l.left (filled l.sorts l.top l.invariant.3 (omega arith)) (drop c.operands-top.result c.operands-top.new.sorts) c.past-i.result (l.left - 1) f (omega arith) (c.past-i.ensures f.node f.rest f.next) (rw (sym (pop_at l.sorts l.top)) (c.operands-top.ensures.0 S a.scope.now (get_or (drop l.top l.sorts) 0 0) f)),
)

pub returns : goal.returns
returns c = λ S k.
    let a = c.args in
    let l = c.loop-top in
    l.invariant.4 S k ∙ rw (emptied l.sorts l.top l.invariant.3 (omega arith)) (none_wanted S a.scope.now l.left (drop l.i a.s.now))
