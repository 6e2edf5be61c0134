-- `node_right`: what is asked of one node, by its kind.
use native.Mathlib.Omega.{arith}
use Rattle.checker.proofs.NodeSorts.{atom_node, call_node, cond_node, sum_node, other_node}
use Rattle.checker.proofs.terms.node_right.Goals as goal

pub returns-then-d-eq-ATOM : goal.returns-then-d-eq-ATOM
returns-then-d-eq-ATOM c = atom_node c.args.cells.now c.args.scope.now c.args.sizes.now c.args.funcs.now c.args.acts.now c.args.procs.now c.args.n c.args.d (omega arith) c.atom_right.result (c.atom_right.ensures c.args.procs.now)

pub returns-then-d-eq-CALL : goal.returns-then-d-eq-CALL
returns-then-d-eq-CALL c = call_node c.args.cells.now c.args.scope.now c.args.sizes.now c.args.funcs.now c.args.acts.now c.args.procs.now c.args.n c.args.d (omega arith) c.call_right.result (c.call_right.ensures c.args.acts.now)

pub returns-then-d-eq-COND : goal.returns-then-d-eq-COND
returns-then-d-eq-COND c = cond_node c.args.cells.now c.args.scope.now c.args.sizes.now c.args.funcs.now c.args.acts.now c.args.procs.now c.args.n c.args.d (omega arith) c.cond_right.result (c.cond_right.ensures c.args.acts.now c.args.procs.now)

pub returns-then-d-eq-SUM : goal.returns-then-d-eq-SUM
returns-then-d-eq-SUM c = sum_node c.args.cells.now c.args.scope.now c.args.sizes.now c.args.funcs.now c.args.acts.now c.args.procs.now c.args.n c.args.d (omega arith)

pub returns : goal.returns
returns c = other_node c.args.cells.now c.args.scope.now c.args.sizes.now c.args.funcs.now c.args.acts.now c.args.procs.now c.args.n c.args.d (λ z. omega arith) (λ z. omega arith) (λ z. omega arith) (λ z. omega arith)
