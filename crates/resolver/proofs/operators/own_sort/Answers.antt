-- What a cell is, is its rest by 4.
use native.Mathlib.Omega.{arith}
use Prim.Native.Nat.{◌+◌}
use mathlib.Core.Path.{◌∙◌}
use Rattle.resolver.proofs.OwnSort.{value_sort, variable_sort, written_sort, operator_sort}
use Rattle.resolver.proofs.operators.own_sort.Goals as goal

pub returns-then-k-eq-VALUE : goal.returns-then-k-eq-VALUE
returns-then-k-eq-VALUE c = record { sort = value_sort c.args.scope.now c.args.c c.wide-k.result c.wide-i.result c.wide-k.ensures.0 c.wide-i.ensures.0 (omega arith); small = tt }

pub returns-then-k-eq-VARIABLE : goal.returns-then-k-eq-VARIABLE
returns-then-k-eq-VARIABLE c =
    let k = c.type_inv.scope (32 + c.wide-i.result) in
    let e = c.wide.ensures.0 ∙ c.peek.ensures in
    record { sort = variable_sort c.args.scope.now c.args.c c.wide-k.result c.wide-i.result c.wide-k.ensures.0 c.wide-i.ensures.0 (omega arith) c.wide.result e; small = omega (arith, k, e) }

pub returns-then-i-lt-MAX_FUNCTIONS : goal.returns-then-i-lt-MAX_FUNCTIONS
returns-then-i-lt-MAX_FUNCTIONS c =
    let k = c.type_inv.scope (64 + c.wide-i.result) in
    let e = c.wide-then-i-lt-MAX_FUNCTIONS.ensures.0 ∙ c.peek-then-i-lt-MAX_FUNCTIONS.ensures in
    record { sort = written_sort c.args.scope.now c.args.c c.wide-k.result c.wide-i.result c.wide-k.ensures.0 c.wide-i.ensures.0 (λ z. omega arith) (λ z. omega arith) (omega arith) c.wide-then-i-lt-MAX_FUNCTIONS.result e; small = omega (arith, k, e) }

pub returns : goal.returns
returns c = record { sort = operator_sort c.args.scope.now c.args.c c.wide-k.result c.wide-i.result c.wide-k.ensures.0 c.wide-i.ensures.0 (λ z. omega arith) (λ z. omega arith) (omega arith); small = omega arith }
