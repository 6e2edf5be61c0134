-- Two names are compared from the back: where nothing differs behind the first one, nothing differs from here on.
use Prim.Native.Nat.{◌-◌}
use native.Mathlib.Omega.{arith}
use mathlib.Core.Path.{sym, ◌∙◌, ap}
use Rattle.names.specs.NameCells.{shown}
use Rattle.names.proofs.Lengths.{name_short, byte_inside, agree_more, agree_not, agree_all}
use Rattle.names.proofs.find.same_run.Goals as goal

pub loop-i-init : goal.loop-i-init
loop-i-init c = (omega arith, λ e. e)

pub overflow_add-p : goal.overflow_add-p
overflow_add-p c = omega (arith, c.requires, name_short c.args.s.now c.args.c)

pub bounds-s-p : goal.bounds-s-p
bounds-s-p c =
    let args = c.args in
    let p = c.first_byte-p in
    let q = c.first_byte-q in
    byte_inside args.s.now args.c args.d p.result q.result args.l p.ensures.0 q.ensures.0 c.requires (c.loop-i.i - 1) (omega arith)

pub overflow_add-q : goal.overflow_add-q
overflow_add-q c = omega (arith, c.requires, name_short c.args.s.now c.args.c)

pub returns-then-s-p : goal.returns-then-s-p
returns-then-s-p c =
    let args = c.args in
    let p = c.first_byte-p in
    let q = c.first_byte-q in
    agree_not args.s.now args.c args.d p.result q.result args.l p.ensures.0 q.ensures.0 c.requires (c.loop-i.i - 1) (omega arith) (λ e. c.if-s-p.true (e ∙ sym c.peek.ensures))

pub loop-i-preserved : goal.loop-i-preserved
loop-i-preserved c =
    let args = c.args in
    let p = c.first_byte-p in
    let q = c.first_byte-q in
    let here = c.loop-i in
    (omega arith, agree_more args.s.now args.c args.d p.result q.result args.l p.ensures.0 q.ensures.0 c.requires (here.i - 1) (omega arith) here.i (omega arith) (c.if-s-p.false ∙ c.peek.ensures) here.invariant.1)

pub overflow_add-q-2 : goal.overflow_add-q-2
overflow_add-q-2 c = omega (arith, c.requires, name_short c.args.s.now c.args.c)

pub returns : goal.returns
returns c =
    let args = c.args in
    let p = c.first_byte-p in
    let q = c.first_byte-q in
    let here = c.loop-i in
    agree_all args.s.now args.c args.d p.result q.result args.l p.ensures.0 q.ensures.0 c.requires here.i c.letter.result (omega arith) here.invariant.1 (c.letter.ensures ∙ ap shown c.peek-2.ensures)
