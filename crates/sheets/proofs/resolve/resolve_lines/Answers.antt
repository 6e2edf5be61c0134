-- Names new, signature, processes and init: where one is not as it must be, so is the whole.
use native.Mathlib.Omega.{arith}
use borrow.Author.Rules.{rules}
use mathlib.Core.Path.{◌≡◌, sym, ◌∙◌, subst⁻¹}
use lib.ListN.{length}
use Rattle.resolver.specs.Resolving.{FewKinds}
use Rattle.sheets.proofs.SheetLaws.{declared_many, kinds_few, not_new, no_signature, no_processes, no_init, lines_resolve}
use Rattle.sheets.proofs.resolve.resolve_lines.Goals as goal

pub put_names-requires : goal.put_names-requires
put_names-requires c =
    let few = c.requires.0 in
    let names = c.declared_names in
    (omega (arith, few.sorts_few, few.funcs_few, few.acts_few, few.procs_few, names.auto.names), omega (arith, few.sorts_few, few.funcs_few, few.acts_few, few.procs_few), search rules)

pub all_new-requires : goal.all_new-requires
all_new-requires c = c.put_names.ensures.keyed

pub returns-then-not-all_new : goal.returns-then-not-all_new
returns-then-not-all_new c =
    let a = c.args in
    let names = c.declared_names in
    let listed = c.put_names in
    not_new a.s.now a.raw.now a.sorts.now a.funcs.now a.acts.now a.procs.now a.at a.values.now names.new.names listed.new.declared names.result c.requires.0
    (declared_many a.s.now a.raw.now a.sorts.now a.funcs.now a.acts.now a.procs.now names.new.names names.result names.ensures.most (names.ensures.names a.s.now))
    (names.ensures.names a.s.now) listed.ensures.kinds listed.ensures.names a.out.now (sym c.if-not-all_new.true ∙ c.all_new.ensures)

pub signature-requires : goal.signature-requires
signature-requires c = let few = c.requires.0 in (few.sorts_few, few.funcs_few, few.acts_few, c.requires.2)

pub returns-in_err-a : goal.returns-in_err-a
returns-in_err-a c =
    let a = c.args in
    let names = c.declared_names in
    let listed = c.put_names in
    rw c.from_residual.ensures (no_signature a.s.now a.raw.now a.sorts.now a.funcs.now a.acts.now a.procs.now a.at c.signature.new.values names.new.names listed.new.declared names.result c.requires.0
    (declared_many a.s.now a.raw.now a.sorts.now a.funcs.now a.acts.now a.procs.now names.new.names names.result names.ensures.most (names.ensures.names a.s.now))
    (names.ensures.names a.s.now) listed.ensures.kinds listed.ensures.names (sym c.if-not-all_new.false ∙ c.all_new.ensures) a.out.now c.in_err-a.ensures)

pub processes-requires : goal.processes-requires
processes-requires c =
    let few = c.requires.0 in
    let listed = c.put_names in
    let bytes : length c.in_ok-a.a.funcs ≡ 64 = search rules in (record { raw_few = few.raw_few; kinds_few = subst⁻¹ FewKinds listed.ensures.kinds (kinds_few c.args.raw.now c.args.sorts.now c.args.funcs.now c.args.acts.now c.args.procs.now few); keyed = listed.ensures.keyed }, omega arith, few.procs_few, c.requires.3)

pub returns-in_err-b : goal.returns-in_err-b
returns-in_err-b c =
    let a = c.args in
    let names = c.declared_names in
    let listed = c.put_names in
    rw c.from_residual-in_err-b.ensures (no_processes a.s.now a.raw.now a.sorts.now a.funcs.now a.acts.now a.procs.now a.at c.signature.new.values names.new.names listed.new.declared names.result c.requires.0
    (declared_many a.s.now a.raw.now a.sorts.now a.funcs.now a.acts.now a.procs.now names.new.names names.result names.ensures.most (names.ensures.names a.s.now))
    (names.ensures.names a.s.now) listed.ensures.kinds listed.ensures.names (sym c.if-not-all_new.false ∙ c.all_new.ensures) c.in_ok-a.a c.in_ok-a.ensures c.processes.new.out c.in_err-b.ensures)

pub slice_bounds-put_results-end : goal.slice_bounds-put_results-end
slice_bounds-put_results-end c = let bytes : length c.in_ok-a.a.funcs ≡ 64 = search rules in sym bytes

pub put_results-requires : goal.put_results-requires
put_results-requires c = let bytes : length c.in_ok-a.a.funcs ≡ 64 = search rules in (omega arith, search rules)

pub slice_bounds-init-end : goal.slice_bounds-init-end
slice_bounds-init-end c = sym c.put_names.auto.declared

pub init-requires : goal.init-requires
init-requires c =
    let few = c.requires.0 in
    let listed = c.put_names in
    let many = c.put_results.auto.scope in
    (record { raw_few = few.raw_few; kinds_few = subst⁻¹ FewKinds listed.ensures.kinds (kinds_few c.args.raw.now c.args.sorts.now c.args.funcs.now c.args.acts.now c.args.procs.now few); scope_many = many; in_scope = omega arith }, c.requires.1, listed.ensures.keyed)

pub returns-in_err-init : goal.returns-in_err-init
returns-in_err-init c =
    let a = c.args in
    let names = c.declared_names in
    let listed = c.put_names in
    rw c.from_residual-in_err-init.ensures (no_init a.s.now a.raw.now a.sorts.now a.funcs.now a.acts.now a.procs.now a.at c.signature.new.values names.new.names listed.new.declared names.result c.requires.0
    (declared_many a.s.now a.raw.now a.sorts.now a.funcs.now a.acts.now a.procs.now names.new.names names.result names.ensures.most (names.ensures.names a.s.now))
    (names.ensures.names a.s.now) listed.ensures.kinds listed.ensures.names (sym c.if-not-all_new.false ∙ c.all_new.ensures) c.in_ok-a.a c.in_ok-a.ensures c.in_ok-b.b c.processes.new.out c.init.new.out c.init.auto.out (let same = c.processes.auto.out in let short = c.requires.3 in omega arith)
    c.in_ok-b.ensures _ c.put_results.new.scope c.put_results.ensures c.in_err-init.ensures)

pub overflow_add-result : goal.overflow_add-result
overflow_add-result c = let few = c.requires.0 in omega (arith, few.sorts_few)

pub shape_of-values : goal.shape_of-values
shape_of-values c = c.signature.auto.values

pub shape_of-out : goal.shape_of-out
shape_of-out c = c.init.auto.out ∙ c.processes.auto.out

pub returns : goal.returns
returns c =
    let a = c.args in
    let names = c.declared_names in
    let listed = c.put_names in
    lines_resolve a.s.now a.raw.now a.sorts.now a.funcs.now a.acts.now a.procs.now a.at c.signature.new.values names.new.names listed.new.declared names.result c.requires.0
    (declared_many a.s.now a.raw.now a.sorts.now a.funcs.now a.acts.now a.procs.now names.new.names names.result names.ensures.most (names.ensures.names a.s.now))
    (names.ensures.names a.s.now) listed.ensures.kinds listed.ensures.names (sym c.if-not-all_new.false ∙ c.all_new.ensures) c.in_ok-a.a c.in_ok-a.ensures c.in_ok-b.b c.processes.new.out c.init.new.out c.init.auto.out (let same = c.processes.auto.out in let short = c.requires.3 in omega arith)
    c.in_ok-b.ensures _ c.put_results.new.scope c.put_results.ensures c.in_ok-init.field-0 c.in_ok-init.ensures
