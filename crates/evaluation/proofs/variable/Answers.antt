-- Only a variable names one.
use native.Mathlib.Omega.{arith}
use Prim.Native.Nat.{◌+◌, ◌-◌}
use mathlib.Core.Path.{◌≡◌, ◌∙◌}
use Rattle.evaluation.proofs.Bytes.{named_value, named_variable, named_function}
use Rattle.evaluation.proofs.variable.Goals as goal

pub returns-then-n-lt-VARIABLE : goal.returns-then-n-lt-VARIABLE
returns-then-n-lt-VARIABLE c = named_value c.args.b (omega (arith, c.wide-n.ensures.0))

pub returns-then-n-lt-FUNCTION : goal.returns-then-n-lt-FUNCTION
returns-then-n-lt-FUNCTION c = let z : c.wide-n.result - 32 + 1 ≡ c.args.b - 32 + 1 = omega (arith, c.wide-n.ensures.0) in z ∙ named_variable c.args.b (omega (arith, c.wide-n.ensures.0)) (omega (arith, c.wide-n.ensures.0))

pub returns : goal.returns
returns c = named_function c.args.b (omega (arith, c.wide-n.ensures.0))
