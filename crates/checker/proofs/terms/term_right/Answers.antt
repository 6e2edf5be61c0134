-- `term_right`: every node is right. Invariant: the terms that are left stand at p, as many as need says, and their variables' sorts in the array.
use native.Mathlib.Omega.{arith}
use mathlib.Core.Path.{sym, ◌∙◌}
use mathlib.Core.Bool.{false}
use Rattle.checker.proofs.TermSorts.{term_start, term_stuck, term_done, term_failed, term_step}
use Rattle.checker.proofs.terms.term_right.Goals as goal

pub loop-need-init : goal.loop-need-init
loop-need-init c = ((omega arith, omega arith, c.requires), term_start c.args.cells.now c.args.start c.args.sizes.now c.args.funcs.now c.args.acts.now c.args.procs.now c.args.n c.args.at)

pub returns-then-p-cells : goal.returns-then-p-cells
returns-then-p-cells c = term_stuck c.args.cells.now c.args.start c.args.sizes.now c.args.funcs.now c.args.acts.now c.args.procs.now c.args.n c.args.at c.loop-need.p c.loop-need.need c.loop-need.scope c.loop-need.invariant.1 (omega arith) (omega arith) false

pub slice_bounds-node_right-end : goal.slice_bounds-node_right-end
slice_bounds-node_right-end c = sym c.loop-need.invariant.0.2

pub returns-then-not-node_right : goal.returns-then-not-node_right
returns-then-not-node_right c = term_failed c.args.cells.now c.args.start c.args.sizes.now c.args.funcs.now c.args.acts.now c.args.procs.now c.args.n c.args.at c.loop-need.p c.loop-need.need c.loop-need.scope c.loop-need.invariant.1 (omega arith) c.node_at-d.result c.node_at-d.ensures.views c.node_right.result c.node_right.ensures c.if-not-node_right.true

pub slice_bounds-bind-end : goal.slice_bounds-bind-end
slice_bounds-bind-end c = sym c.loop-need.invariant.0.2

pub loop-need-preserved : goal.loop-need-preserved
loop-need-preserved c = ((omega arith, omega arith, c.bind.auto.scope ∙ c.loop-need.invariant.0.2), term_step c.args.cells.now c.args.start c.args.sizes.now c.args.funcs.now c.args.acts.now c.args.procs.now c.args.n c.args.at c.loop-need.p c.loop-need.need c.loop-need.scope c.loop-need.invariant.1 (omega arith) c.node_at-d.result c.node_at-d.ensures.views c.node_right.result c.node_right.ensures c.if-not-node_right.false c.loop-need.invariant.0.2 c.bind.new.scope c.bind.ensures)

pub returns : goal.returns
returns c = term_done c.args.cells.now c.args.start c.args.sizes.now c.args.funcs.now c.args.acts.now c.args.procs.now c.args.n c.args.at c.loop-need.p c.loop-need.need c.loop-need.scope c.loop-need.invariant.1 (omega arith)
