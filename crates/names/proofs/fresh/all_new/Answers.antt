-- The names left, behind Bool, are distinct exactly if all are.
use mathlib.Core.Path.{sym, ◌∙◌, ap}
use mathlib.Core.List.{◌∷◌}
use Prim.Native.Nat.{◌+◌, ◌-◌}
use native.Mathlib.Omega.{arith}
use lib.ListN.{drop, get_or, drop_of_length-le}
use Rattle.pcrl.specs.Text.{bytes}
use Rattle.pcrl.specs.Tests.{among, distinct}
use Rattle.laws.specs.Says.{said_yes, said_no}
use Rattle.names.specs.NameCells.{name_at, scope_at}
use Rattle.names.specs.NameList.{names_in, nexts_in, firsts_in}
use Rattle.names.proofs.Lists.{mapped_length}
use Rattle.names.proofs.Among.{taken_twice, there_twice, new_passed, number_among}
use Rattle.names.proofs.KeyLaws.{keyed_fewer, names_left}
use Rattle.names.proofs.ListLaws.{names_few, next_listed}
use Rattle.names.proofs.fresh.all_new.Goals as goal

pub offset_bounds-declared-i : goal.offset_bounds-declared-i
offset_bounds-declared-i c =
    let n = names_few c.args.s.now c.args.declared.now _ c.requires in
    omega (arith, c.total-n.ensures)

pub bounds-declared-i : goal.bounds-declared-i
bounds-declared-i c =
    let n = names_few c.args.s.now c.args.declared.now _ c.requires in
    omega (arith, c.total-n.ensures)

pub returns-then-is_bool : goal.returns-then-is_bool
unfolding scope_at
returns-then-is_bool c = rw (← c.total-n.ensures) (taken_twice (distinct (bytes "Bool" ∷ scope_at c.args.s.now (names_in c.args.declared.now) c.total-n.result)) (bytes "Bool") (name_at c.args.s.now (get_or c.args.declared.now c.loop-i.i 0)) (drop c.loop-i.i (scope_at c.args.s.now (names_in c.args.declared.now) c.total-n.result)) (drop (c.loop-i.i + 1) (scope_at c.args.s.now (names_in c.args.declared.now) c.total-n.result)) c.loop-i.invariant (next_listed c.args.s.now c.args.declared.now c.total-n.result c.loop-i.i (keyed_fewer c.args.s.now (names_in c.args.declared.now) (nexts_in c.args.declared.now) (firsts_in c.args.declared.now) c.total-n.result _ (omega (arith, c.total-n.ensures)) c.requires) c.loop-i-test.true) (said_yes _ c.is_bool.ensures c.if-is_bool.true))

pub number_in-requires : goal.number_in-requires
number_in-requires c = keyed_fewer c.args.s.now (names_in c.args.declared.now) (nexts_in c.args.declared.now) (firsts_in c.args.declared.now) _ _ (omega (arith, c.total-n.ensures)) c.requires

pub returns-then-is_some : goal.returns-then-is_some
unfolding scope_at
returns-then-is_some c = rw (← c.total-n.ensures) (there_twice (distinct (bytes "Bool" ∷ scope_at c.args.s.now (names_in c.args.declared.now) c.total-n.result)) (bytes "Bool") (name_at c.args.s.now (get_or c.args.declared.now c.loop-i.i 0)) (drop c.loop-i.i (scope_at c.args.s.now (names_in c.args.declared.now) c.total-n.result)) (drop (c.loop-i.i + 1) (scope_at c.args.s.now (names_in c.args.declared.now) c.total-n.result)) c.loop-i.invariant (next_listed c.args.s.now c.args.declared.now c.total-n.result c.loop-i.i (keyed_fewer c.args.s.now (names_in c.args.declared.now) (nexts_in c.args.declared.now) (firsts_in c.args.declared.now) c.total-n.result _ (omega (arith, c.total-n.ensures)) c.requires) c.loop-i-test.true) (ap (among (name_at c.args.s.now (get_or c.args.declared.now c.loop-i.i 0))) (names_left c.args.s.now (names_in c.args.declared.now) (c.loop-i.i + 1) c.total-n.result (c.total-n.result - c.loop-i.i - 1) (omega arith)) ∙ (number_among _ _ c.number_in.result c.number_in.ensures.number ∙ (sym c.is_some.ensures ∙ c.if-is_some.true))))

pub loop-i-preserved : goal.loop-i-preserved
unfolding scope_at
loop-i-preserved c = new_passed (distinct (bytes "Bool" ∷ scope_at c.args.s.now (names_in c.args.declared.now) c.total-n.result)) (bytes "Bool") (name_at c.args.s.now (get_or c.args.declared.now c.loop-i.i 0)) (drop c.loop-i.i (scope_at c.args.s.now (names_in c.args.declared.now) c.total-n.result)) (drop (c.loop-i.i + 1) (scope_at c.args.s.now (names_in c.args.declared.now) c.total-n.result)) c.loop-i.invariant (next_listed c.args.s.now c.args.declared.now c.total-n.result c.loop-i.i (keyed_fewer c.args.s.now (names_in c.args.declared.now) (nexts_in c.args.declared.now) (firsts_in c.args.declared.now) c.total-n.result _ (omega (arith, c.total-n.ensures)) c.requires) c.loop-i-test.true) (said_no _ c.is_bool.ensures c.if-is_bool.false) (ap (among (name_at c.args.s.now (get_or c.args.declared.now c.loop-i.i 0))) (names_left c.args.s.now (names_in c.args.declared.now) (c.loop-i.i + 1) c.total-n.result (c.total-n.result - c.loop-i.i - 1) (omega arith)) ∙ (number_among _ _ c.number_in.result c.number_in.ensures.number ∙ (sym c.is_some.ensures ∙ c.if-is_some.false)))

pub returns : goal.returns
unfolding scope_at among distinct
returns c = rw (← c.total-n.ensures) (sym (c.loop-i.invariant ∙ rw (drop_of_length-le (scope_at c.args.s.now (names_in c.args.declared.now) c.total-n.result) {i = c.loop-i.i} (omega (arith, mapped_length (name_at c.args.s.now) (names_in c.args.declared.now) c.total-n.result (keyed_fewer c.args.s.now (names_in c.args.declared.now) (nexts_in c.args.declared.now) (firsts_in c.args.declared.now) c.total-n.result _ (omega (arith, c.total-n.ensures)) c.requires).names_few)))))
