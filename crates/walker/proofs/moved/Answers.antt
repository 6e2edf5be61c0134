-- An answer that does not count is only kept.
use native.Mathlib.Omega.{arith}
use Rattle.walker.proofs.Moving.{plain_keeps, late_keeps, step_moves}
use Rattle.walker.proofs.moved.Goals as goal

pub returns-in_default : goal.returns-in_default
returns-in_default c = plain_keeps c.args.w c.args.r c.in_default.not-Stepped

pub returns-then-w-ge-STEPS : goal.returns-then-w-ge-STEPS
returns-then-w-ge-STEPS c = rw c.in-Stepped.is (late_keeps c.args.w c.in-Stepped.step (omega (arith, c.if-w-ge-STEPS)))

pub returns : goal.returns
returns c = rw c.in-Stepped.is (step_moves c.args.w c.in-Stepped.step (omega (arith, c.if-w-ge-STEPS)))
