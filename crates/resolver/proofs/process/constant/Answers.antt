-- delta and tau are nodes without number and data.
use Rattle.std.specs.Prelude.{None}
use mathlib.Core.Path.{sym, ◌∙◌}
use native.Mathlib.Omega.{arith}
use Rattle.resolver.proofs.ForkLaws.{delta_took, tau_took, constant_lost}
use Rattle.resolver.proofs.process.constant.Goals as goal

pub shape_of-out-then-k-eq-DELTA_TAG : goal.shape_of-out-then-k-eq-DELTA_TAG
shape_of-out-then-k-eq-DELTA_TAG c = c.node.auto.out

pub returns-then-k-eq-DELTA_TAG : goal.returns-then-k-eq-DELTA_TAG
returns-then-k-eq-DELTA_TAG c = record { ahead = omega arith; resolves = delta_took c.args.raw.now c.args.at c.args.after c.args.w c.args.out.now c.peek-k.result (sym c.peek-k.ensures) c.if-k-eq-DELTA_TAG.true c.first_cell.result c.node.result c.node.new.out c.first_cell.ensures c.node.ensures }

pub shape_of-out-then-k-eq-TAU_TAG : goal.shape_of-out-then-k-eq-TAU_TAG
shape_of-out-then-k-eq-TAU_TAG c = c.node-then-k-eq-TAU_TAG.auto.out

pub returns-then-k-eq-TAU_TAG : goal.returns-then-k-eq-TAU_TAG
returns-then-k-eq-TAU_TAG c = record { ahead = omega arith; resolves = tau_took c.args.raw.now c.args.at c.args.after c.args.w c.args.out.now c.peek-k.result (sym c.peek-k.ensures) c.if-k-eq-TAU_TAG.true c.first_cell-then-k-eq-TAU_TAG.result c.node-then-k-eq-TAU_TAG.result c.node-then-k-eq-TAU_TAG.new.out c.first_cell-then-k-eq-TAU_TAG.ensures c.node-then-k-eq-TAU_TAG.ensures }

pub returns : goal.returns
returns c = record { ahead = tt; resolves = constant_lost c.args.raw.now c.args.at c.args.after c.args.w c.args.out.now (λ e. c.if-k-eq-DELTA_TAG.false (c.peek-k.ensures ∙ e)) (λ e. c.if-k-eq-TAU_TAG.false (c.peek-k.ensures ∙ e)) None c.args.out.now }
