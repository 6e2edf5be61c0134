-- `fits`: a value below the size, a variable of the sort, a function that gives it; an operator gives Bool.
use native.Mathlib.Omega.{arith}
use mathlib.Core.Bool.{false}
use Rattle.checker.proofs.EachFits.{fits_stuck, fits_value, fits_variable, fits_function, fits_none, fits_operator}
use Rattle.checker.proofs.arguments.fits.Goals as goal

pub returns-then-at-cells : goal.returns-then-at-cells
returns-then-at-cells c = let args = c.args in
    fits_stuck args.cells.now args.scope.now args.sizes.now args.funcs.now args.n args.at args.sort (omega arith) false

pub returns-then-d-eq-VALUE : goal.returns-then-d-eq-VALUE
returns-then-d-eq-VALUE c =
    let args = c.args in
    let d = c.data_at-d in
    fits_value args.cells.now args.scope.now args.sizes.now args.funcs.now args.n args.at args.sort d.result d.ensures.data_views (omega arith) c.size_of.result c.size_of.ensures.value

pub returns-then-d-eq-VARIABLE : goal.returns-then-d-eq-VARIABLE
returns-then-d-eq-VARIABLE c =
    let args = c.args in
    let d = c.data_at-d in
    fits_variable args.cells.now args.scope.now args.sizes.now args.funcs.now args.n args.at args.sort d.result d.ensures.data_views (omega arith) c.cell.result c.cell.ensures.0

pub returns-then-d-n : goal.returns-then-d-n
returns-then-d-n c =
    let args = c.args in
    let d = c.data_at-d in
    fits_function args.cells.now args.scope.now args.sizes.now args.funcs.now args.n args.at args.sort d.result d.ensures.data_views (λ z. omega arith) (λ z. omega arith) (omega arith) c.cell-then-d-n.result c.cell-then-d-n.ensures.0

pub returns-in-Some : goal.returns-in-Some
returns-in-Some c =
    let args = c.args in
    let d = c.data_at-d in
    fits_operator args.cells.now args.scope.now args.sizes.now args.funcs.now args.n args.at args.sort d.result d.ensures.data_views (λ z. omega arith) (λ z. omega arith) (omega arith) c.in-Some.field-0 c.in-Some.ensures

pub returns-in-None : goal.returns-in-None
returns-in-None c =
    let args = c.args in
    let d = c.data_at-d in
    fits_none args.cells.now args.scope.now args.sizes.now args.funcs.now args.n args.at args.sort d.result d.ensures.data_views (λ z. omega arith) (λ z. omega arith) (omega arith) c.in-None.ensures
