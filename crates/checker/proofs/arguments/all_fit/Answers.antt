-- `all_fit`: the arguments of every node fit. Invariant: the terms that are left stand at p, as many as need says; those passed fit inside.
use Prim.Native.Nat.{◌<◌, ◌≤◌}
use native.Mathlib.Omega.{arith}
use lib.ListN.{length}
use mathlib.Core.Bool.{false}
use Rattle.nodes.specs.Layout.{cell_limit}
use Rattle.checker.proofs.AllFit.{all_start, all_stuck, all_many, all_done, all_failed, all_step, run_failed, run_passed}
use Rattle.checker.proofs.arguments.all_fit.Goals as goal

pub loop-need-init : goal.loop-need-init
loop-need-init c =
    let args = c.args in
    (omega arith, all_start args.cells.now args.scope.now args.sizes.now args.funcs.now args.n args.given.at args.given.count)

pub returns-then-p-cells : goal.returns-then-p-cells
returns-then-p-cells c = let args = c.args in let here = c.loop-need in
    all_stuck args.cells.now args.scope.now args.sizes.now args.funcs.now args.n args.given.at args.given.count here.p here.need here.invariant.1 (omega arith) (omega arith) false

pub returns-then-need-cells : goal.returns-then-need-cells
returns-then-need-cells c = let args = c.args in let here = c.loop-need in
    all_many args.cells.now args.scope.now args.sizes.now args.funcs.now args.n args.given.at args.given.count here.p here.need here.invariant.1 (omega arith) (omega arith) false

pub returns-then-not-every_fits : goal.returns-then-not-every_fits
returns-then-not-every_fits c =
    let left : 0 < c.loop-need.need = omega arith in
    let args = c.args in
    let here = c.loop-need in
    let d = c.data_at-d in
    let t = c.in-Some in
    let r = c.run_of-r in
    let f = c.every_fits in
    run_failed args.cells.now args.scope.now args.sizes.now args.funcs.now args.n args.given.at args.given.count here.p here.need here.invariant.1 left d.result d.ensures.data_views t.takes t.ensures.takes_bools t.ensures.upper_bound.0 r.result.next r.result.count r.ensures.bools_at f.result f.ensures c.if-not-every_fits.true

pub loop-need-preserved-in-Some : goal.loop-need-preserved-in-Some
loop-need-preserved-in-Some c =
    let left : 0 < c.loop-need.need = omega arith in
    let many : c.run_of-r.result.count ≤ cell_limit = c.run_of-r.ensures.at_le_next.1 in
    let few : c.loop-need.need ≤ length c.args.cells.now = omega arith in
    let args = c.args in
    let here = c.loop-need in
    let d = c.data_at-d in
    let t = c.in-Some in
    let r = c.run_of-r in
    let f = c.every_fits in
    (omega arith, run_passed args.cells.now args.scope.now args.sizes.now args.funcs.now args.n args.given.at args.given.count here.p here.need here.invariant.1 left d.result d.ensures.data_views t.takes t.ensures.takes_bools t.ensures.upper_bound.0 r.result.next r.result.count r.ensures.bools_at f.result f.ensures c.if-not-every_fits.false)

pub returns-then-not-arguments_fit : goal.returns-then-not-arguments_fit
returns-then-not-arguments_fit c =
    let args = c.args in
    let here = c.loop-need in
    let d = c.data_at-d in
    let f = c.arguments_fit in
    all_failed args.cells.now args.scope.now args.sizes.now args.funcs.now args.n args.given.at args.given.count here.p here.need here.invariant.1 (omega arith) d.result d.ensures.data_views f.result f.ensures c.if-not-arguments_fit.true

pub loop-need-preserved : goal.loop-need-preserved
loop-need-preserved c =
    let args = c.args in
    let here = c.loop-need in
    let d = c.data_at-d in
    let f = c.arguments_fit in
    (omega arith, all_step args.cells.now args.scope.now args.sizes.now args.funcs.now args.n args.given.at args.given.count here.p here.need here.invariant.1 (omega arith) d.result d.ensures.data_views f.result f.ensures c.if-not-arguments_fit.false)

pub returns : goal.returns
returns c = let args = c.args in let here = c.loop-need in
    all_done args.cells.now args.scope.now args.sizes.now args.funcs.now args.n args.given.at args.given.count here.p here.need here.invariant.1 (omega arith)
