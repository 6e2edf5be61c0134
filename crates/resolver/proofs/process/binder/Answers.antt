-- A new variable and a known sort: the node, the variable, its name behind those in scope, and its sort.
use mathlib.Core.Path.{◌∙◌, sym, ap}
use Prim.Native.Nat.{suc, ◌≤◌, ◌<◌}
use native.Mathlib.Omega.{arith}
use lib.ListN.{set, length-set}
use Rattle.pcrl.specs.Names.{number_of}
use Rattle.names.specs.NameCells.{or_count, name_at}
use Rattle.names.specs.NameKinds.{sorts_in}
use Rattle.names.proofs.Numbers.{is_found, not_found}
use Rattle.names.specs.NameList.{names_in, kinds_in}
use Rattle.resolver.proofs.NewLaws.{says_new, binder_full, binder_old, binder_no_sort, binder_took, push_kept, both_pushed, nothing_changed}
use Rattle.resolver.proofs.process.binder.Goals as goal

pub overflow_add-from : goal.overflow_add-from
overflow_add-from c = let q = c.requires in omega arith

pub new_variable-requires : goal.new_variable-requires
new_variable-requires c = (c.requires.2, (let q = c.requires.0 in omega arith))

pub returns-then-not-new_variable : goal.returns-then-not-new_variable
returns-then-not-new_variable c =
    let args = c.args in
    let few = c.requires.0 in
    record { ahead = tt; kept = nothing_changed args.n args.scope.now; bound = tt; binds = binder_old args.s.now args.raw.now (names_in args.declared.now) (kinds_in args.declared.now) args.scope.now args.n args.from.at args.after args.from.w args.out.now (omega arith) c.peek-x.result c.peek-x.ensures c.new_variable.result (says_new args.s.now (names_in args.declared.now) (kinds_in args.declared.now) args.scope.now args.n c.peek-x.result c.new_variable.result c.new_variable.ensures) c.if-not-new_variable.true args.out.now }

pub overflow_add-from-2 : goal.overflow_add-from-2
overflow_add-from-2 c = let q = c.requires in omega arith

pub sort_in-requires : goal.sort_in-requires
sort_in-requires c = c.requires.2

pub returns-in_err-d : goal.returns-in_err-d
returns-in_err-d c =
    let args = c.args in
    let few = c.requires.0 in
    rw c.from_residual.ensures (record { ahead = tt; kept = nothing_changed args.n args.scope.now; bound = tt; binds = binder_no_sort args.s.now args.raw.now (names_in args.declared.now) (kinds_in args.declared.now) args.scope.now args.n args.from.at args.after args.from.w args.out.now (omega arith) c.peek-x.result c.peek-x.ensures c.new_variable.result (says_new args.s.now (names_in args.declared.now) (kinds_in args.declared.now) args.scope.now args.n c.peek-x.result c.new_variable.result c.new_variable.ensures) c.if-not-new_variable.false c.peek.result c.peek.ensures (not_found (number_of (name_at args.s.now c.peek.result) (sorts_in args.s.now (names_in args.declared.now) (kinds_in args.declared.now))) c.in_err-d.ensures.number) args.out.now })

pub returns-then-n-ge-MAX_SCOPE : goal.returns-then-n-ge-MAX_SCOPE
returns-then-n-ge-MAX_SCOPE c =
    let args = c.args in
    let few = c.requires.0 in
    record { ahead = tt; kept = nothing_changed args.n args.scope.now; bound = tt; binds = binder_full args.s.now args.raw.now (names_in args.declared.now) (kinds_in args.declared.now) args.scope.now args.n args.from.at args.after args.from.w args.out.now (omega arith) args.out.now c.if-n-ge-MAX_SCOPE.true }

pub offset_bounds-scope-n : goal.offset_bounds-scope-n
offset_bounds-scope-n c = let q = c.requires in omega arith

pub bounds-scope-n : goal.bounds-scope-n
bounds-scope-n c = let q = c.requires in omega arith

pub overflow_add-scope : goal.overflow_add-scope
overflow_add-scope c = let q = c.requires in omega arith

pub offset_bounds-scope-n-2 : goal.offset_bounds-scope-n-2
offset_bounds-scope-n-2 c = let q = c.requires in let l = length-set c.args.scope.now c.args.n c.peek-x.result in omega arith

pub bounds-scope-n-2 : goal.bounds-scope-n-2
bounds-scope-n-2 c = let q = c.requires in let l = length-set c.args.scope.now c.args.n c.peek-x.result in omega arith

pub overflow_add-result : goal.overflow_add-result
overflow_add-result c = let q = c.requires in omega arith

pub overflow_mul-n : goal.overflow_mul-n
overflow_mul-n c = let q = c.requires in omega arith

pub overflow_add-n : goal.overflow_add-n
overflow_add-n c = let q = c.requires in omega arith

pub shape_of-scope : goal.shape_of-scope
shape_of-scope c = length-set (set c.args.scope.now c.args.n c.peek-x.result) _ _ ∙ length-set c.args.scope.now c.args.n c.peek-x.result

pub shape_of-out : goal.shape_of-out
shape_of-out c = c.put.auto.out ∙ c.node-v.auto.out

pub returns : goal.returns
returns c =
    let args = c.args in
    let few = c.requires.0 in
    let q = c.requires.1 in
    let found : c.in_ok-d.d ≤ (kinds_in args.declared.now).sorts = c.in_ok-d.ensures.most in
    let number = is_found (number_of (name_at args.s.now c.peek.result) (sorts_in args.s.now (names_in args.declared.now) (kinds_in args.declared.now))) c.in_ok-d.d c.in_ok-d.ensures.number in
    let deep : args.n < 32 = c.if-n-ge-MAX_SCOPE.false in
    let sort = c.short.ensures (omega arith) in
    record { ahead = omega arith; kept = push_kept args.scope.now args.n c.peek-x.result c.short.result deep few.scope_many; bound = (deep, both_pushed args.s.now args.raw.now (names_in args.declared.now) (kinds_in args.declared.now) args.scope.now args.n args.from.at c.peek-x.result c.peek.result c.short.result c.in_ok-d.d c.peek-x.ensures c.peek.ensures (sym (ap (or_count (suc (kinds_in args.declared.now).sorts)) number)) sort); binds = binder_took args.s.now args.raw.now (names_in args.declared.now) (kinds_in args.declared.now) args.scope.now args.n args.from.at args.after args.from.w args.out.now (omega arith) c.peek-x.result c.peek-x.ensures c.new_variable.result (says_new args.s.now (names_in args.declared.now) (kinds_in args.declared.now) args.scope.now args.n c.peek-x.result c.new_variable.result c.new_variable.ensures) c.if-not-new_variable.false c.peek.result c.peek.ensures c.in_ok-d.d number c.first_cell.result c.short-2.result c.node-v.result c.put.result c.node-v.new.out c.put.new.out c.first_cell.ensures (c.short-2.ensures (omega arith)) c.node-v.ensures c.put.ensures }
