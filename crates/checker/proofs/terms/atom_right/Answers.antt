-- `atom_right`: an action that is there with the data that it takes, or tau with none.
use native.Mathlib.Omega.{arith}
use Rattle.checker.proofs.NodeSorts.{tau_right, no_such_action, action_right}
use Rattle.checker.proofs.terms.atom_right.Goals as goal

pub returns-then-d-eq0 : goal.returns-then-d-eq0
returns-then-d-eq0 c = λ procs. tau_right c.args.cells.now c.args.scope.now c.args.sizes.now c.args.funcs.now c.args.acts.now procs c.args.n c.args.d (omega arith)

pub returns-then-a-n : goal.returns-then-a-n
returns-then-a-n c = λ procs. no_such_action c.args.cells.now c.args.scope.now c.args.sizes.now c.args.funcs.now c.args.acts.now procs c.args.n c.args.d (λ z. omega arith) (omega arith)

pub returns : goal.returns
returns c = λ procs. action_right c.args.cells.now c.args.scope.now c.args.sizes.now c.args.funcs.now c.args.acts.now procs c.args.n c.args.d (λ z. omega arith) (omega arith) c.arguments_right.result c.arguments_right.ensures
