-- The row of the parameters, then the right side with them in scope, with their sorts and what the functions give.
use borrow.Author.Rules.{rules}
use native.Mathlib.Omega.{arith}
use Rattle.names.specs.NameList.{names_in, kinds_in}
use Rattle.sheets.proofs.ProcessLaws.{params_lost, process_read}
use Rattle.sheets.proofs.processes.process.Goals as goal

pub param_row-requires : goal.param_row-requires
param_row-requires c =
    let few = c.requires.0 in
    (few.keyed, omega (arith, c.requires.2), c.requires.3, search rules)

pub returns-in_err-a : goal.returns-in_err-a
returns-in_err-a c =
    let args = c.args in
    let params = c.param_row in
    rw c.from_residual.ensures (params_lost args.s.now args.raw.now (names_in args.declared.now) (kinds_in args.declared.now) args.at params.new.row params.new.scope c.in_err-a.ensures.params args.funcs.now args.w args.out.now args.out.now)

pub put_results-requires : goal.put_results-requires
put_results-requires c =
    let wide = c.param_row.auto.scope in
    (c.requires.1, wide)

pub put_sorts-requires : goal.put_sorts-requires
put_sorts-requires c =
    let wide = c.param_row.auto.scope in
    let same = c.put_results.auto.scope in
    let rows = c.param_row.auto.row in
    let most = c.in_ok-a.ensures.few in
    let room = c.requires.3 in
    (omega arith, omega arith, omega arith)

pub right_side-requires : goal.right_side-requires
right_side-requires c =
    let few = c.requires.0 in
    let wide = c.param_row.auto.scope in
    let same = c.put_results.auto.scope in
    let same₁ = c.put_sorts.auto.scope in
    let most = c.in_ok-a.ensures.few in
    (record { raw_few = few.raw_few; kinds_few = few.kinds_few; scope_many = omega arith; in_scope = omega arith }, few.keyed)

pub returns : goal.returns
returns c =
    let args = c.args in
    let params = c.param_row in
    let right = c.right_side in
    let few = c.requires.0 in
    let same = params.auto.row in
    let room = c.requires.3 in
    process_read args.s.now args.raw.now (names_in args.declared.now) (kinds_in args.declared.now) args.at params.new.row params.new.scope c.in_ok-a.a c.in_ok-a.ensures.params args.w args.out.now right.result right.new.out
    args.funcs.now c.put_results.new.scope c.put_sorts.new.scope c.in_ok-a.ensures.few (omega arith) few.kinds_few.funcs_few c.put_results.ensures c.put_sorts.ensures right.ensures.resolves
