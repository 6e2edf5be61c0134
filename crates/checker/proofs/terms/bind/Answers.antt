-- `bind` writes the sort of the variable that a sum binds.
use native.Mathlib.Omega.{arith}
use Rattle.checker.proofs.NodeSorts.{binds_none, binds_far, binds_one}
use Rattle.checker.proofs.terms.bind.Goals as goal

pub returns-then-d-ne-SUM : goal.returns-then-d-ne-SUM
returns-then-d-ne-SUM c = binds_none c.args.cells.now c.args.d c.args.scope.now (λ z. omega arith)

pub returns-then-x-ge-MAX_SCOPE : goal.returns-then-x-ge-MAX_SCOPE
returns-then-x-ge-MAX_SCOPE c = binds_far c.args.cells.now c.args.d c.args.scope.now (omega arith) c.cell-x.result c.cell-x.ensures.0 (omega arith)

pub returns : goal.returns
returns c = binds_one c.args.cells.now c.args.d c.args.scope.now (omega arith) c.cell-x.result c.cell-x.ensures.0
