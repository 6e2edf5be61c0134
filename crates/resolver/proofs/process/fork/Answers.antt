-- A condition is found by passing over the first part.
use mathlib.Core.Path.{sym, ◌∙◌}
use native.Mathlib.Omega.{arith}
use Rattle.names.specs.NameList.{names_in, kinds_in}
use Rattle.resolver.proofs.ForkLaws.{fork_then, fork_plus, fork_lost, fork_cond}
use Rattle.resolver.proofs.process.fork.Goals as goal

pub shape_of-out-then-k-eq-THEN_TAG : goal.shape_of-out-then-k-eq-THEN_TAG
shape_of-out-then-k-eq-THEN_TAG c = c.node.auto.out

pub returns-then-k-eq-THEN_TAG : goal.returns-then-k-eq-THEN_TAG
returns-then-k-eq-THEN_TAG c = fork_then c.args.s.now c.args.raw.now (names_in c.args.declared.now) (kinds_in c.args.declared.now) c.args.scope.now c.args.n c.args.from.at c.args.after c.args.from.w c.args.out.now c.node.result c.node.new.out (sym c.peek-k.ensures ∙ c.if-k-eq-THEN_TAG.true) c.first_cell.result c.first_cell.ensures c.node.ensures

pub shape_of-out-then-k-eq-PLUS_TAG : goal.shape_of-out-then-k-eq-PLUS_TAG
shape_of-out-then-k-eq-PLUS_TAG c = c.node-then-k-eq-PLUS_TAG.auto.out

pub returns-then-k-eq-PLUS_TAG : goal.returns-then-k-eq-PLUS_TAG
returns-then-k-eq-PLUS_TAG c = fork_plus c.args.s.now c.args.raw.now (names_in c.args.declared.now) (kinds_in c.args.declared.now) c.args.scope.now c.args.n c.args.from.at c.args.after c.args.from.w c.args.out.now c.node-then-k-eq-PLUS_TAG.result c.node-then-k-eq-PLUS_TAG.new.out (sym c.peek-k.ensures ∙ c.if-k-eq-PLUS_TAG.true) c.first_cell-then-k-eq-PLUS_TAG.result c.first_cell-then-k-eq-PLUS_TAG.ensures c.node-then-k-eq-PLUS_TAG.ensures

pub overflow_add-from : goal.overflow_add-from
overflow_add-from c = let q = c.requires in omega arith

pub skip-requires : goal.skip-requires
skip-requires c = let q = c.requires.0 in omega arith

pub condition-requires : goal.condition-requires
condition-requires c = let q = c.requires.0 in (omega arith, c.requires.2)

pub shape_of-out-in_err-d : goal.shape_of-out-in_err-d
shape_of-out-in_err-d c = c.condition.auto.out ∙ c.put-v.auto.out

pub returns-in_err-d : goal.returns-in_err-d
returns-in_err-d c =
    let args = c.args in
    rw c.from_residual.ensures (fork_lost args.s.now args.raw.now (names_in args.declared.now) (kinds_in args.declared.now) args.scope.now args.n args.from.at args.after args.from.w args.out.now (λ e. c.if-k-eq-THEN_TAG.false (c.peek-k.ensures ∙ e)) (λ e. c.if-k-eq-PLUS_TAG.false (c.peek-k.ensures ∙ e)) c.skip.result c.skip.ensures.skips c.first_cell-2.result c.put-v.result c.put-v.new.out c.first_cell-2.ensures c.put-v.ensures c.condition.new.out c.in_err-d.ensures)

pub shape_of-out : goal.shape_of-out
shape_of-out c = c.condition.auto.out ∙ c.put-v.auto.out

pub returns : goal.returns
returns c =
    let args = c.args in
    fork_cond args.s.now args.raw.now (names_in args.declared.now) (kinds_in args.declared.now) args.scope.now args.n args.from.at args.after args.from.w args.out.now (λ e. c.if-k-eq-THEN_TAG.false (c.peek-k.ensures ∙ e)) (λ e. c.if-k-eq-PLUS_TAG.false (c.peek-k.ensures ∙ e)) c.skip.result c.skip.ensures.skips c.first_cell-2.result c.put-v.result c.put-v.new.out c.first_cell-2.ensures c.put-v.ensures c.in_ok-d.d c.condition.new.out c.in_ok-d.ensures
