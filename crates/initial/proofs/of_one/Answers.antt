-- Each way out by the law of its branch.
use mathlib.Core.Path.{sym, ◌∙◌}
use native.Mathlib.Omega.{arith}
use Rattle.initial.proofs.Operating.{one_written, one_zero, one_more}
use Rattle.initial.proofs.of_one.Goals as goal

pub returns-then-f-lt-NOT : goal.returns-then-f-lt-NOT
returns-then-f-lt-NOT c = let a = c.args in let v = c.looked in (v.ensures.0 ∙ sym (one_written a.values.now a.places.now a.f a.x (omega arith)), omega (arith, v.ensures.1))

pub returns-then-x-eq0 : goal.returns-then-x-eq0
returns-then-x-eq0 c = let a = c.args in (one_zero a.values.now a.places.now a.f a.x (omega arith) (omega arith), omega arith)

pub returns-else-x-eq0 : goal.returns-else-x-eq0
returns-else-x-eq0 c = let a = c.args in (one_more a.values.now a.places.now a.f a.x (omega arith) (λ h. omega arith), omega arith)
