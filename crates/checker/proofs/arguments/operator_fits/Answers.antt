-- `operator_fits`: as many arguments as the operator takes, each of its sort.
use native.Mathlib.Omega.{arith}
use Rattle.checker.proofs.AllFit.{no_function, operator_uneven, operator_fits}
use Rattle.checker.proofs.arguments.operator_fits.Goals as goal

pub returns-in_default : goal.returns-in_default
returns-in_default c =
    let args = c.args in
    no_function args.cells.now args.scope.now args.sizes.now args.funcs.now args.n args.d c.requires.0 c.requires.1 c.in_default.ensures

pub returns-then-d-o : goal.returns-then-d-o
returns-then-d-o c =
    let args = c.args in
    operator_uneven args.cells.now args.scope.now args.sizes.now args.funcs.now args.n args.d c.requires.0 c.requires.1 c.in-Some.o c.in-Some.ensures (λ z. omega arith)

pub returns : goal.returns
returns c =
    let args = c.args in
    operator_fits args.cells.now args.scope.now args.sizes.now args.funcs.now args.n args.d c.requires.0 c.requires.1 c.in-Some.o c.in-Some.ensures (omega arith) c.every_fits.result c.every_fits.ensures
