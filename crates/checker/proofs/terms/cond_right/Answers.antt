-- `cond_right`: a condition of sort Bool.
use Rattle.checker.proofs.NodeSorts.{no_condition, condition_right}
use Rattle.checker.proofs.terms.cond_right.Goals as goal

pub returns-then-not-fits : goal.returns-then-not-fits
returns-then-not-fits c = λ acts procs. no_condition c.args.cells.now c.args.scope.now c.args.sizes.now c.args.funcs.now acts procs c.args.n c.args.d c.fits.result c.fits.ensures c.if-not-fits.true

pub returns : goal.returns
returns c = λ acts procs. condition_right c.args.cells.now c.args.scope.now c.args.sizes.now c.args.funcs.now acts procs c.args.n c.args.d c.fits.result c.fits.ensures c.if-not-fits.false c.all_fit.result c.all_fit.ensures
