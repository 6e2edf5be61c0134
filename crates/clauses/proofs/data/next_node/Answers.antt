-- Only behind the byte of `==` a sort is passed.
use native.Mathlib.Omega.{arith}
use mathlib.Core.Path.{◌≡◌, ◌∙◌}
use Rattle.clauses.specs.Brackets.{sign, passed}
use Rattle.clauses.proofs.Marks.{passed_sort, passed_none}
use Rattle.clauses.proofs.data.next_node.Goals as goal

pub returns-then-wide-eq-EQUAL_CODE : goal.returns-then-wide-eq-EQUAL_CODE
returns-then-wide-eq-EQUAL_CODE c =
    let a = c.args in
    let z : passed (sign a.b) ≡ 1 = passed_sort a.b (omega (arith, c.wide.ensures.0, c.if-wide-eq-EQUAL_CODE.true)) in
    omega (arith, z, c.min.ensures)

pub returns : goal.returns
returns c =
    let a = c.args in
    let z : passed (sign a.b) ≡ 0 = passed_none a.b (λ e. c.if-wide-eq-EQUAL_CODE.false (c.wide.ensures.0 ∙ e)) in
    omega (arith, z)
