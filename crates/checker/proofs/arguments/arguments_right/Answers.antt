-- `arguments_right`: arguments have their sorts if their first nodes fit and the arguments of every node fit.
use native.Mathlib.Omega.{arith}
use mathlib.Core.Bool.{true}
use Rattle.checker.proofs.AllFit.{arguments_unfit, arguments_all, all_start, all_done}
use Rattle.checker.proofs.arguments.arguments_right.Goals as goal

pub returns-then-not-each_fits : goal.returns-then-not-each_fits
returns-then-not-each_fits c = arguments_unfit c.args.cells.now c.args.scope.now c.args.sizes.now c.args.funcs.now c.args.n c.args.given.at c.args.given.count c.args.row.now c.args.start c.each_fits.result c.each_fits.ensures c.if-not-each_fits.true

pub returns-then-given-eq0 : goal.returns-then-given-eq0
returns-then-given-eq0 c = let a = c.args in let f = c.each_fits in
    arguments_all a.cells.now a.scope.now a.sizes.now a.funcs.now a.n a.given.at a.given.count a.row.now a.start f.result f.ensures c.if-not-each_fits.false true (all_done a.cells.now a.scope.now a.sizes.now a.funcs.now a.n a.given.at a.given.count a.given.at a.given.count (all_start a.cells.now a.scope.now a.sizes.now a.funcs.now a.n a.given.at a.given.count) (omega arith))

pub returns : goal.returns
returns c = arguments_all c.args.cells.now c.args.scope.now c.args.sizes.now c.args.funcs.now c.args.n c.args.given.at c.args.given.count c.args.row.now c.args.start c.each_fits.result c.each_fits.ensures c.if-not-each_fits.false c.all_fit.result c.all_fit.ensures
