-- A lane is kept, or 0.
use mathlib.Core.Path.{refl}
use borrow.Author.Tests.{eq-eqb, ne_eqb}
use Rattle.evaluation.proofs.rows.same.Goals as goal

pub returns-then-x-wanted : goal.returns-then-x-wanted
returns-then-x-wanted c = let a = c.args in rw (eq-eqb a.x a.wanted c.if-x-wanted.true) refl

pub returns-else-x-wanted : goal.returns-else-x-wanted
returns-else-x-wanted c = let a = c.args in rw (ne_eqb a.x a.wanted c.if-x-wanted.false) refl
