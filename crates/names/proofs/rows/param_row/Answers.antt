-- Each parameter comes into scope and into the row; a name that is not new, or a sort that is none, ends it.
use mathlib.Core.Path.{◌≡◌, ◌∙◌, refl, ap}
use Prim.Native.Nat.{ℕ, suc, ◌+◌}
use native.Mathlib.Omega.{arith}
use lib.ListN.{length-set}
use Rattle.pcrl.specs.Names.{number_of}
use Rattle.names.specs.NameCells.{name_at}
use Rattle.names.specs.NameKinds.{sorts_in}
use Rattle.names.specs.NameList.{names_in, kinds_in}
use Rattle.names.proofs.Numbers.{is_found, not_found}
use Rattle.names.proofs.ListLaws.{names_few}
use Rattle.names.proofs.ParamLines.{params_start, params_old, params_no_sort, params_go, params_end}
use Rattle.names.proofs.rows.param_row.Goals as goal

pub items-m-requires : goal.items-m-requires
items-m-requires c = (omega arith, omega (arith, c.requires), omega arith)

pub loop-k-init : goal.loop-k-init
loop-k-init c = (omega arith, refl, refl, params_start c.args.s.now c.args.cells.now (names_in c.args.declared.now) (kinds_in c.args.declared.now) c.args.at c.args.row.now c.args.scope.now)

pub overflow_mul-k : goal.overflow_mul-k
overflow_mul-k c = omega (arith, c.requires, c.items-m.ensures.most)

pub overflow_add-at : goal.overflow_add-at
overflow_add-at c = omega (arith, c.requires, c.items-m.ensures.most)

pub overflow_add-at-in-loop-k : goal.overflow_add-at-in-loop-k
overflow_add-at-in-loop-k c = omega (arith, c.requires, c.items-m.ensures.most)

pub new_variable-requires : goal.new_variable-requires
new_variable-requires c = (c.requires.0, omega (arith, c.requires, c.items-m.ensures.most, c.loop-k.invariant.2))

pub shape_of-row-then-not-new_variable : goal.shape_of-row-then-not-new_variable
shape_of-row-then-not-new_variable c = c.loop-k.invariant.1

pub shape_of-scope-then-not-new_variable : goal.shape_of-scope-then-not-new_variable
shape_of-scope-then-not-new_variable c = c.loop-k.invariant.2

pub returns-then-not-new_variable : goal.returns-then-not-new_variable
returns-then-not-new_variable c = record { few = tt; params = params_old c.args.s.now c.args.cells.now (names_in c.args.declared.now) (kinds_in c.args.declared.now) c.args.at c.loop-k.row c.loop-k.scope c.items-m.result c.loop-k.k c.peek-v.result c.new_variable.result c.loop-k.invariant.3 c.items-m.ensures.count c.loop-k-test.true c.peek-v.ensures c.new_variable.ensures c.loop-k.row c.loop-k.scope c.if-not-new_variable.true }

pub overflow_mul-k-in-loop-k : goal.overflow_mul-k-in-loop-k
overflow_mul-k-in-loop-k c = omega (arith, c.requires, c.items-m.ensures.most)

pub overflow_add-at-in-loop-k-2 : goal.overflow_add-at-in-loop-k-2
overflow_add-at-in-loop-k-2 c = omega (arith, c.requires, c.items-m.ensures.most)

pub overflow_add-at-in-loop-k-3 : goal.overflow_add-at-in-loop-k-3
overflow_add-at-in-loop-k-3 c = omega (arith, c.requires, c.items-m.ensures.most)

pub sort_in-requires : goal.sort_in-requires
sort_in-requires c = c.requires.0

pub shape_of-row-in_err-d : goal.shape_of-row-in_err-d
shape_of-row-in_err-d c = c.loop-k.invariant.1

pub shape_of-scope-in_err-d : goal.shape_of-scope-in_err-d
shape_of-scope-in_err-d c = c.loop-k.invariant.2

pub returns-in_err-d : goal.returns-in_err-d
returns-in_err-d c =
    let a = c.args in
    let names = names_in a.declared.now in
    let kinds = kinds_in a.declared.now in
    let number = not_found (number_of (name_at a.s.now c.peek.result) (sorts_in a.s.now names kinds)) c.in_err-d.ensures.number in
    rw c.from_residual.ensures (record {
      few = tt;
      params = params_no_sort a.s.now a.cells.now names kinds a.at c.loop-k.row c.loop-k.scope c.items-m.result c.loop-k.k c.peek-v.result c.new_variable.result c.loop-k.invariant.3 c.items-m.ensures.count c.loop-k-test.true c.peek-v.ensures c.new_variable.ensures c.if-not-new_variable.false c.loop-k.row c.loop-k.scope (rw (← c.peek.ensures) number);
    })

pub offset_bounds-scope-k : goal.offset_bounds-scope-k
offset_bounds-scope-k c = omega (arith, c.requires, c.items-m.ensures.most, c.loop-k.invariant.2)

pub bounds-scope-k : goal.bounds-scope-k
bounds-scope-k c = omega (arith, c.requires, c.items-m.ensures.most, c.loop-k.invariant.2)

pub overflow_cast-row : goal.overflow_cast-row
overflow_cast-row c =
    let n = names_few c.args.s.now c.args.declared.now _ c.requires.0 in
    omega (arith, c.in_ok-d.ensures.most)

pub overflow_add-row : goal.overflow_add-row
overflow_add-row c = omega (arith, c.requires.2, c.items-m.ensures.most)

pub bounds-row-k : goal.bounds-row-k
bounds-row-k c = omega (arith, c.requires, c.items-m.ensures.most, c.loop-k.invariant.1)

pub loop-k-preserved : goal.loop-k-preserved
loop-k-preserved c =
    let a = c.args in
    let names = names_in a.declared.now in
    let kinds = kinds_in a.declared.now in
    let number = is_found (number_of (name_at a.s.now c.peek.result) (sorts_in a.s.now names kinds)) c.in_ok-d.d c.in_ok-d.ensures.number in (
      omega arith,
      length-set c.loop-k.row (1 + c.loop-k.k) c.in_ok-d.d ∙ c.loop-k.invariant.1,
      length-set c.loop-k.scope c.loop-k.k c.peek-v.result ∙ c.loop-k.invariant.2,
      params_go a.s.now a.cells.now names kinds a.at c.loop-k.row c.loop-k.scope c.items-m.result c.loop-k.k c.peek-v.result c.new_variable.result c.loop-k.invariant.3 c.items-m.ensures.count c.loop-k-test.true c.peek-v.ensures c.new_variable.ensures c.if-not-new_variable.false (1 + c.loop-k.k) c.in_ok-d.d (rw (← c.peek.ensures) number) (omega (arith, c.requires, c.items-m.ensures.most, c.loop-k.invariant.2)) refl (omega (arith, c.requires, c.items-m.ensures.most, c.loop-k.invariant.1)),
    )

pub overflow_cast-row-2 : goal.overflow_cast-row-2
overflow_cast-row-2 c = omega (arith, c.items-m.ensures.most)

pub bounds-row-0 : goal.bounds-row-0
bounds-row-0 c = omega (arith, c.requires, c.loop-k.invariant.1)

pub overflow_mul-result : goal.overflow_mul-result
overflow_mul-result c = omega (arith, c.requires, c.items-m.ensures.most)

pub overflow_add-result : goal.overflow_add-result
overflow_add-result c = omega (arith, c.requires, c.items-m.ensures.most)

pub overflow_add-result-2 : goal.overflow_add-result-2
overflow_add-result-2 c = omega (arith, c.requires, c.items-m.ensures.most)

pub shape_of-row : goal.shape_of-row
shape_of-row c = length-set c.loop-k.row 0 c.items-m.result ∙ c.loop-k.invariant.1

pub shape_of-scope : goal.shape_of-scope
shape_of-scope c = c.loop-k.invariant.2

pub returns : goal.returns
returns c =
    let z : c.loop-k.k ≡ c.items-m.result = omega arith in record { few = c.items-m.ensures.most; params = params_end c.args.s.now c.args.cells.now (names_in c.args.declared.now) (kinds_in c.args.declared.now) c.args.at c.loop-k.row c.loop-k.scope c.loop-k.k c.items-m.result _ c.items-m.ensures.count z (omega (arith, c.requires, c.loop-k.invariant.1)) c.loop-k.invariant.3 refl refl }
