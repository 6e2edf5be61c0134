-- The lines are gone through in order: those passed declare other names.
use mathlib.Core.Path.{◌∙◌, sym, ap}
use Prim.Native.Nat.{◌+◌}
use native.Mathlib.Omega.{arith}
use lib.ListN.{get_or}
use Rattle.laws.specs.Says.{said_yes, said_no}
use Rattle.names.specs.NameCells.{name_at, declared_at, names_at}
use Rattle.names.proofs.Numbers.{search_starts, search_finds, search_goes, search_ends}
use Rattle.names.proofs.find.number_of.Goals as goal

pub loop-i-init : goal.loop-i-init
unfolding names_at declared_at
loop-i-init c = (omega arith, search_starts (declared_at c.args.s.now c.args.cells.now) c.args.places.now c.args.count c.requires (name_at c.args.s.now c.args.c))

pub bounds-places-i : goal.bounds-places-i
bounds-places-i c = omega (arith, c.requires)

pub overflow_add-p : goal.overflow_add-p
overflow_add-p c = omega (arith, c.wide-p.ensures)

pub returns-then-same_name : goal.returns-then-same_name
unfolding names_at declared_at
returns-then-same_name c = record { most = omega arith; number = search_finds (declared_at c.args.s.now c.args.cells.now) c.args.places.now c.args.count c.requires (name_at c.args.s.now c.args.c) c.loop-i.i c.loop-i-test.true c.loop-i.invariant.1 (said_yes _ c.same_name.ensures c.if-same_name.true ∙ (ap (name_at c.args.s.now) (c.peek.ensures ∙ ap (λ p. get_or c.args.cells.now (p + 1) 0) c.wide-p.ensures.0))) }

pub loop-i-preserved : goal.loop-i-preserved
unfolding names_at declared_at
loop-i-preserved c = (omega arith, search_goes (declared_at c.args.s.now c.args.cells.now) c.args.places.now c.args.count c.requires (name_at c.args.s.now c.args.c) c.loop-i.i c.loop-i-test.true c.loop-i.invariant.1 (λ e. said_no _ c.same_name.ensures c.if-same_name.false (e ∙ sym (ap (name_at c.args.s.now) (c.peek.ensures ∙ ap (λ p. get_or c.args.cells.now (p + 1) 0) c.wide-p.ensures.0)))))

pub returns : goal.returns
unfolding names_at declared_at
returns c = record { most = omega arith; number = search_ends (declared_at c.args.s.now c.args.cells.now) c.args.places.now c.args.count c.requires (name_at c.args.s.now c.args.c) c.loop-i.i c.loop-i-test.false c.loop-i.invariant.0 c.loop-i.invariant.1 }
