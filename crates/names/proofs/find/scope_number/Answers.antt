-- The names in scope are gone through in order: those passed are others.
use native.Mathlib.Omega.{arith}
use Rattle.laws.specs.Says.{said_yes, said_no}
use Rattle.names.specs.NameCells.{name_at, scope_at}
use Rattle.names.proofs.Numbers.{search_starts, search_finds, search_goes, search_ends}
use Rattle.names.proofs.find.scope_number.Goals as goal

pub loop-i-init : goal.loop-i-init
unfolding scope_at
loop-i-init c =
    let args = c.args in
    (omega arith, search_starts (name_at args.s.now) args.scope.now args.n c.requires (name_at args.s.now args.c))

pub bounds-scope-i : goal.bounds-scope-i
bounds-scope-i c = omega (arith, c.requires)

pub same_run-requires : goal.same_run-requires
same_run-requires c = c.name_length-l.ensures

pub returns-then-same_run : goal.returns-then-same_run
unfolding scope_at
returns-then-same_run c =
    let args = c.args in
    let here = c.loop-i in
    record { most = omega arith; number = search_finds (name_at args.s.now) args.scope.now args.n c.requires (name_at args.s.now args.c) here.i c.loop-i-test.true here.invariant.1 (said_yes _ c.same_run.ensures c.if-same_run.true) }

pub loop-i-preserved : goal.loop-i-preserved
unfolding scope_at
loop-i-preserved c =
    let args = c.args in
    let here = c.loop-i in
    (omega arith, search_goes (name_at args.s.now) args.scope.now args.n c.requires (name_at args.s.now args.c) here.i c.loop-i-test.true here.invariant.1 (said_no _ c.same_run.ensures c.if-same_run.false))

pub returns : goal.returns
unfolding scope_at
returns c =
    let args = c.args in
    let here = c.loop-i in
    record { most = omega arith; number = search_ends (name_at args.s.now) args.scope.now args.n c.requires (name_at args.s.now args.c) here.i c.loop-i-test.false here.invariant.0 here.invariant.1 }
