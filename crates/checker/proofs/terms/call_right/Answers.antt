-- `call_right`: a process that is there with the data that it takes.
use native.Mathlib.Omega.{arith}
use Rattle.checker.proofs.NodeSorts.{no_such_process, process_right}
use Rattle.checker.proofs.terms.call_right.Goals as goal

pub returns-then-d-n : goal.returns-then-d-n
returns-then-d-n c = λ acts. no_such_process c.args.cells.now c.args.scope.now c.args.sizes.now c.args.funcs.now acts c.args.procs.now c.args.n c.args.d (omega arith)

pub returns : goal.returns
returns c = λ acts. process_right c.args.cells.now c.args.scope.now c.args.sizes.now c.args.funcs.now acts c.args.procs.now c.args.n c.args.d (omega arith) c.arguments_right.result c.arguments_right.ensures
