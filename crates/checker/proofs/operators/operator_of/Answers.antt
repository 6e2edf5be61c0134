-- `operator_of`: what a number stands for, case by case.
use mathlib.Core.Logic.{⊎_elim}
use native.Mathlib.Omega.{arith}
use Rattle.checker.proofs.Operations.{not_operates, and_operates, or_operates, operator_equal, equal_none, operator_none}
use Rattle.checker.proofs.operators.operator_of.Goals as goal

pub returns-then-sort-sorts : goal.returns-then-sort-sorts
returns-then-sort-sorts c = let args = c.args in equal_none args.number args.sorts (omega arith) (omega arith)

pub returns-then-number-ge-EQUAL : goal.returns-then-number-ge-EQUAL
returns-then-number-ge-EQUAL c = let args = c.args in operator_equal args.number args.sorts (omega arith) (omega arith)

pub returns-then-number-eq-NOT : goal.returns-then-number-eq-NOT
returns-then-number-eq-NOT c = let args = c.args in λ S m l. not_operates S args.number (omega arith)

pub returns : goal.returns
returns c =
    let args = c.args in
    operator_none args.number args.sorts (omega arith) (λ z. omega arith) (λ z. omega arith) (λ z. omega arith)

pub returns-then-number-eq-AND : goal.returns-then-number-eq-AND
returns-then-number-eq-AND c = λ S m l. ⊎_elim (λ z. and_operates S c.args.number z) (λ z. or_operates S c.args.number z.1) c.then-number-eq-AND.either
