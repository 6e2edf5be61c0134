-- `every_fits`: each of the terms fits one sort. Invariant: the terms that are left stand at p, as many as are not passed; those before fit.
use mathlib.Core.Path.{◌≡◌}
use Prim.Native.Nat.{◌+◌, ◌-◌}
use native.Mathlib.Omega.{arith}
use Rattle.checker.proofs.EveryFits.{every_start, every_done, every_failed, every_last, every_step}
use Rattle.checker.proofs.arguments.every_fits.Goals as goal

pub loop-i-init : goal.loop-i-init
loop-i-init c =
    let args = c.args in
    let all : args.given.count - 0 ≡ args.given.count = omega arith in
    rw all (every_start args.cells.now args.scope.now args.sizes.now args.funcs.now args.n args.given.at args.given.count args.sort)

pub returns-then-not-fits : goal.returns-then-not-fits
returns-then-not-fits c = let args = c.args in let here = c.loop-i in
    every_failed args.cells.now args.scope.now args.sizes.now args.funcs.now args.n args.given.at args.given.count args.sort here.p (args.given.count - here.i) here.invariant (omega arith) c.fits.result c.fits.ensures c.if-not-fits.true

pub returns-then-i-count : goal.returns-then-i-count
returns-then-i-count c =
    let args = c.args in
    let here = c.loop-i in
    let f = c.fits in
    every_last args.cells.now args.scope.now args.sizes.now args.funcs.now args.n args.given.at args.given.count args.sort here.p (args.given.count - here.i) here.invariant (omega arith) f.result f.ensures (omega arith) c.if-not-fits.false

pub loop-i-preserved : goal.loop-i-preserved
loop-i-preserved c =
    let args = c.args in
    let here = c.loop-i in
    let f = c.fits in
    let less : args.given.count - (here.i + 1) ≡ args.given.count - here.i - 1 = omega arith in
    rw less (every_step args.cells.now args.scope.now args.sizes.now args.funcs.now args.n args.given.at args.given.count args.sort here.p (args.given.count - here.i) here.invariant (omega arith) f.result f.ensures c.if-not-fits.false c.skip_data-p.result c.skip_data-p.ensures.skips_data)

pub returns : goal.returns
returns c = let args = c.args in let here = c.loop-i in
    every_done args.cells.now args.scope.now args.sizes.now args.funcs.now args.n args.given.at args.given.count args.sort here.p (args.given.count - here.i) here.invariant (omega arith)
