-- `arguments_fit`: the arguments of a function fit its sorts; a value and a variable have none.
use native.Mathlib.Omega.{arith}
use Rattle.checker.proofs.AllFit.{leaf_fits, function_fits}
use Rattle.checker.proofs.arguments.arguments_fit.Goals as goal

pub returns-then-d-ne-FUNCTION : goal.returns-then-d-ne-FUNCTION
returns-then-d-ne-FUNCTION c =
    let args = c.args in
    leaf_fits args.cells.now args.scope.now args.sizes.now args.funcs.now args.n args.d (λ z. omega arith)

pub returns-then-d-n : goal.returns-then-d-n
returns-then-d-n c = c.operator_fits.ensures

pub returns : goal.returns
returns c = let args = c.args in
    function_fits args.cells.now args.scope.now args.sizes.now args.funcs.now args.n args.d (omega arith) (omega arith) c.each_fits.result c.each_fits.ensures
