-- `each_fits`: as many terms as sorts, each fits its sort. Invariant: the terms that are left stand at p, those before fit the first i sorts.
use native.Mathlib.Omega.{arith}
use Rattle.checker.proofs.EachFits.{each_uneven, each_start, each_done, each_failed, each_last, each_step}
use Rattle.checker.proofs.arguments.each_fits.Goals as goal

pub returns-then-cell-count : goal.returns-then-cell-count
returns-then-cell-count c = each_uneven c.args.cells.now c.args.scope.now c.args.sizes.now c.args.funcs.now c.args.n c.args.given.at c.args.given.count c.args.row.now c.args.start (λ z. omega (arith, c.cell.ensures.0))

pub loop-i-init : goal.loop-i-init
loop-i-init c = (omega arith, each_start c.args.cells.now c.args.scope.now c.args.sizes.now c.args.funcs.now c.args.n c.args.given.at c.args.given.count c.args.row.now c.args.start)

pub returns-then-not-fits : goal.returns-then-not-fits
returns-then-not-fits c = each_failed c.args.cells.now c.args.scope.now c.args.sizes.now c.args.funcs.now c.args.n c.args.given.at c.args.given.count c.args.row.now c.args.start c.loop-i.p c.loop-i.i c.loop-i.invariant.1 (omega (arith, c.cell.ensures.0)) (omega arith) c.cell-sort.result c.cell-sort.ensures.0 c.fits.result c.fits.ensures c.if-not-fits.true

pub returns-then-i-count : goal.returns-then-i-count
returns-then-i-count c =
    let args = c.args in
    let here = c.loop-i in
    let s = c.cell-sort in
    let f = c.fits in
    each_last args.cells.now args.scope.now args.sizes.now args.funcs.now args.n args.given.at args.given.count args.row.now args.start here.p here.i here.invariant.1 (omega (arith, c.cell.ensures.0)) (omega arith) s.result s.ensures.0 f.result f.ensures (omega arith) c.if-not-fits.false

pub loop-i-preserved : goal.loop-i-preserved
loop-i-preserved c =
    let args = c.args in
    let here = c.loop-i in
    let s = c.cell-sort in
    let f = c.fits in
    (omega arith, each_step args.cells.now args.scope.now args.sizes.now args.funcs.now args.n args.given.at args.given.count args.row.now args.start here.p here.i here.invariant.1 (omega (arith, c.cell.ensures.0)) (omega arith) s.result s.ensures.0 f.result f.ensures c.if-not-fits.false c.skip_data-p.result c.skip_data-p.ensures.skips_data)

pub returns : goal.returns
returns c = each_done c.args.cells.now c.args.scope.now c.args.sizes.now c.args.funcs.now c.args.n c.args.given.at c.args.given.count c.args.row.now c.args.start c.loop-i.p c.loop-i.i c.loop-i.invariant.1 (omega (arith, c.cell.ensures.0)) (omega arith)
