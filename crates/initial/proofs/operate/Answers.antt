-- Each way out by the law of its branch.
use native.Mathlib.Omega.{arith}
use Rattle.initial.proofs.Operating.{equal_same, equal_other, and_zero, and_more, or_zero, or_more}
use Rattle.initial.proofs.operate.Goals as goal

pub returns-then-x-y : goal.returns-then-x-y
returns-then-x-y c = let a = c.args in (equal_same a.f a.x a.y (omega arith) (omega arith), omega arith)

pub returns-else-x-y : goal.returns-else-x-y
returns-else-x-y c = let a = c.args in (equal_other a.f a.x a.y (omega arith) (λ h. omega arith), omega arith)

pub returns-then-x-eq0 : goal.returns-then-x-eq0
returns-then-x-eq0 c = let a = c.args in (and_zero a.f a.x a.y (omega arith) (omega arith), omega arith)

pub returns-else-x-eq0 : goal.returns-else-x-eq0
returns-else-x-eq0 c = let a = c.args in (and_more a.f a.x a.y (omega arith) (λ h. omega arith), omega arith)

pub returns-then-x-eq0-2 : goal.returns-then-x-eq0-2
returns-then-x-eq0-2 c = let a = c.args in (or_zero a.f a.x a.y (omega arith) (λ h. omega arith) (omega arith), omega arith)

pub returns-else-x-eq0-2 : goal.returns-else-x-eq0-2
returns-else-x-eq0-2 c = let a = c.args in (or_more a.f a.x a.y (omega arith) (λ h. omega arith) (λ h. omega arith), omega arith)
