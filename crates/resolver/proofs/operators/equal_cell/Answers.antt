-- The first side that has a sort by itself says which `==` it is.
use Rattle.names.proofs.Numbers.{is_found, not_found}
use Rattle.resolver.specs.Sorting.{cell_sort}
use Rattle.resolver.proofs.OwnSort.{equal_first, equal_second, equal_neither}
use Rattle.resolver.proofs.operators.equal_cell.Goals as goal

pub returns-in-Some : goal.returns-in-Some
returns-in-Some c = equal_first c.args.scope.now c.args.c c.args.d c.in-Some.a (is_found (cell_sort c.args.scope.now c.args.c) c.in-Some.a c.in-Some.ensures.sort) c.short.result c.short.ensures

pub returns-in-Some-own_sort : goal.returns-in-Some-own_sort
returns-in-Some-own_sort c =
    let scope = c.args.scope.now in
    let second = c.in-Some-own_sort in
    equal_second scope c.args.c c.args.d (not_found (cell_sort scope c.args.c) c.in_default.ensures.sort) second.b (is_found (cell_sort scope c.args.d) second.b second.ensures.sort) c.short-in-Some-own_sort.result c.short-in-Some-own_sort.ensures

pub returns : goal.returns
returns c =
    let scope = c.args.scope.now in
    equal_neither scope c.args.c c.args.d (not_found (cell_sort scope c.args.c) c.in_default.ensures.sort) (not_found (cell_sort scope c.args.d) c.in_default-own_sort.ensures.sort)
