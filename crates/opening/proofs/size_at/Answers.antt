-- The size stands behind the places of the functions; a right table has no other case.
use native.Mathlib.Omega.{arith}
use mathlib.Core.Path.{◌∙◌, ap}
use Rattle.terms.specs.Stands.{size_in}
use Rattle.opening.proofs.Sizing.{size_none, size_some, size_right}
use Rattle.opening.proofs.size_at.Goals as goal

pub returns-then-wide-i : goal.returns-then-wide-i
returns-then-wide-i c = (omega arith, (omega arith, λ S vars known st sorts few. size_none S c.args.s.now c.args.funcs.now vars c.args.at c.args.i known st sorts few c.requires.1 (omega (arith, c.wide.ensures.0, c.peek.ensures))))

pub returns-then-z-eq0 : goal.returns-then-z-eq0
returns-then-z-eq0 c = (
  omega arith,
  (
    omega arith,
    λ S vars known st sorts few.
        let a = c.args in
        let is = c.size_of-z.ensures ∙ ap (size_in a.funcs.now) c.peek-2.ensures in
        let r = size_right S a.s.now a.funcs.now vars a.at a.i known st sorts few c.requires.1 c.size_of-z.result is (omega (arith, c.wide.ensures.0, c.peek.ensures)) in absurd (omega (arith, c.if-z-eq0.true)),
  ),
)

pub returns-then-z-gt-SIZE : goal.returns-then-z-gt-SIZE
returns-then-z-gt-SIZE c = (
  omega arith,
  (
    omega arith,
    λ S vars known st sorts few.
        let a = c.args in
        let is = c.size_of-z.ensures ∙ ap (size_in a.funcs.now) c.peek-2.ensures in
        let r = size_right S a.s.now a.funcs.now vars a.at a.i known st sorts few c.requires.1 c.size_of-z.result is (omega (arith, c.wide.ensures.0, c.peek.ensures)) in absurd (omega (arith, c.if-z-gt-SIZE.true)),
  ),
)

pub returns : goal.returns
returns c = (
  omega arith,
  (
    omega arith,
    λ S vars known st sorts few.
        let a = c.args in
        let is = c.size_of-z.ensures ∙ ap (size_in a.funcs.now) c.peek-2.ensures in
        size_some S a.s.now a.funcs.now vars a.at a.i known st sorts few c.requires.1 c.size_of-z.result is (omega (arith, c.wide.ensures.0, c.peek.ensures)),
  ),
)
