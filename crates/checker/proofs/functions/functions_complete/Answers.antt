-- `functions_complete`: every function is complete. Invariant: those before f are.
use native.Mathlib.Omega.{arith}
use Rattle.checker.proofs.FunctionValues.{functions_failed, functions_more, functions_done}
use Rattle.checker.proofs.functions.functions_complete.Goals as goal

pub loop-f-init : goal.loop-f-init
loop-f-init c = (omega arith, λ S acts h i l. absurd (omega arith))

pub returns-then-not-complete : goal.returns-then-not-complete
returns-then-not-complete c = functions_failed c.args.funcs.now c.args.values.now c.args.places.now c.args.sizes.now c.args.n c.loop-f.f c.complete.result c.complete.ensures (omega arith) c.if-not-complete.true

pub loop-f-preserved : goal.loop-f-preserved
loop-f-preserved c = (omega arith, functions_more c.args.funcs.now c.args.values.now c.args.places.now c.args.sizes.now c.args.n c.loop-f.f c.complete.result c.complete.ensures (omega arith) c.if-not-complete.false c.loop-f.invariant.1)

pub returns : goal.returns
returns c = functions_done c.args.funcs.now c.args.values.now c.args.places.now c.args.sizes.now c.args.n c.loop-f.f (omega arith) c.loop-f.invariant.1
