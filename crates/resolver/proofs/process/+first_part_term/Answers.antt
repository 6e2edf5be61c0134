-- The loop's invariant: one term is left, and the names in scope at entry are kept. The place goes on from a term to its first part.
use mathlib.Core.Path.{refl, sym, ap, ◌∙◌}
use native.Mathlib.Omega.{arith}
use Rattle.names.specs.NameList.{names_in, kinds_in}
use Rattle.resolver.proofs.NewLaws.{nothing_changed}
use Rattle.resolver.specs.Raw.{tokens_of, kids_of}
use Rattle.resolver.proofs.TermLaws.{term_start, term_end, term_named, term_constant, term_single, term_binder, term_binder_lost, term_second, term_first_lost, kept_on}
use Rattle.resolver.proofs.DataLaws.{later}
use Rattle.resolver.proofs.FirstLaws.{head_lost, first_lost, first_read}
use Rattle.resolver.proofs.process.+first_part_term.Goals as goal

pub first_part-fork-requires : goal.first_part-fork-requires
first_part-fork-requires t c =
    let q = c.requires in
    (omega arith, omega arith, c.requires.2)

pub first_part-shape_of-out-in_err-h : goal.first_part-shape_of-out-in_err-h
first_part-shape_of-out-in_err-h t c = c.fork.auto.out

pub first_part-returns-in_err-h : goal.first_part-returns-in_err-h
first_part-returns-in_err-h t c =
    let args = c.args in
    rw c.from_residual.ensures (record { ahead = tt; kept = nothing_changed args.n args.scope.now; resolves = head_lost args.s.now args.raw.now (names_in args.declared.now) (kinds_in args.declared.now) args.scope.now args.n args.from.at args.after args.from.w args.out.now c.fork.new.out c.in_err-h.ensures })

pub first_part-overflow_add-next : goal.first_part-overflow_add-next
first_part-overflow_add-next t c =
    let q = c.requires in
    omega arith

pub first_part-term-requires : goal.first_part-term-requires
first_part-term-requires t c =
    let q = c.requires in
    (omega arith, (omega arith, c.requires.2))

pub first_part-shape_of-scope-in_err-a : goal.first_part-shape_of-scope-in_err-a
first_part-shape_of-scope-in_err-a t c = c.term.auto.scope

pub first_part-shape_of-out-in_err-a : goal.first_part-shape_of-out-in_err-a
first_part-shape_of-out-in_err-a t c = c.term.auto.out ∙ c.fork.auto.out

pub first_part-returns-in_err-a : goal.first_part-returns-in_err-a
first_part-returns-in_err-a t c =
    let args = c.args in
    rw c.from_residual-in_err-a.ensures (record { ahead = tt; kept = c.in_err-a.ensures.kept; resolves = first_lost args.s.now args.raw.now (names_in args.declared.now) (kinds_in args.declared.now) args.scope.now args.n args.from.at args.after args.from.w args.out.now c.in_ok-h.h c.fork.new.out c.in_ok-h.ensures c.term.new.out c.in_err-a.ensures.resolves })

pub first_part-shape_of-scope-then-a-h : goal.first_part-shape_of-scope-then-a-h
first_part-shape_of-scope-then-a-h t c = c.term.auto.scope

pub first_part-shape_of-out-then-a-h : goal.first_part-shape_of-out-then-a-h
first_part-shape_of-out-then-a-h t c = c.term.auto.out ∙ c.fork.auto.out

pub first_part-returns-then-a-h : goal.first_part-returns-then-a-h
first_part-returns-then-a-h t c =
    let args = c.args in
    let q = c.requires in
    let h = c.in_ok-h.h in
    let a = c.in_ok-a.ensures.ahead in
    let z = c.if-a-h.true in
    record { ahead = omega arith; kept = c.in_ok-a.ensures.kept; resolves = first_read args.s.now args.raw.now (names_in args.declared.now) (kinds_in args.declared.now) args.scope.now args.n args.from.at args.after args.from.w args.out.now h c.fork.new.out c.in_ok-h.ensures c.in_ok-a.a c.term.new.out c.in_ok-a.ensures.resolves (omega arith) (record { at = h.at; w = c.in_ok-a.a.w }) (omega arith) refl }

pub first_part-shape_of-scope : goal.first_part-shape_of-scope
first_part-shape_of-scope t c = c.term.auto.scope

pub first_part-shape_of-out : goal.first_part-shape_of-out
first_part-shape_of-out t c = c.term.auto.out ∙ c.fork.auto.out

pub first_part-returns : goal.first_part-returns
first_part-returns t c =
    let args = c.args in
    let q = c.requires in
    let h = c.in_ok-h.h in
    let a = c.in_ok-a.ensures.ahead in
    let z = c.if-a-h.false in
    record { ahead = omega arith; kept = c.in_ok-a.ensures.kept; resolves = first_read args.s.now args.raw.now (names_in args.declared.now) (kinds_in args.declared.now) args.scope.now args.n args.from.at args.after args.from.w args.out.now h c.fork.new.out c.in_ok-h.ensures c.in_ok-a.a c.term.new.out c.in_ok-a.ensures.resolves (omega arith) c.in_ok-a.a (omega arith) refl }

pub term-loop-p-init : goal.term-loop-p-init
term-loop-p-init t c =
    let args = c.args in
    let q = c.requires in
    (omega arith, nothing_changed args.n args.scope.now, term_start args.s.now args.raw.now (names_in args.declared.now) (kinds_in args.declared.now) args.scope.now args.n args.from.at args.after args.from.w args.out.now)

pub term-binder-requires : goal.term-binder-requires
term-binder-requires t c =
    let here = c.loop-p in
    let q = c.requires in
    let i = here.invariant.0 in
    let h = c.loop-p-test.true in
    let j = here.invariant.0.2 (omega arith) in
    (omega arith, omega arith, c.requires.1)

pub term-shape_of-scope-in_err-b : goal.term-shape_of-scope-in_err-b
term-shape_of-scope-in_err-b t c = c.binder.auto.scope ∙ c.loop-p.invariant.0.3

pub term-shape_of-out-in_err-b : goal.term-shape_of-out-in_err-b
term-shape_of-out-in_err-b t c = c.binder.auto.out ∙ c.loop-p.invariant.0.4

pub term-returns-in_err-b : goal.term-returns-in_err-b
term-returns-in_err-b t c =
    let args = c.args in
    let here = c.loop-p in
    rw c.from_residual.ensures (record { ahead = tt; kept = kept_on args.n here.m c.binder.new.scope here.scope args.scope.now here.invariant.0.1 c.in_err-b.ensures.kept here.invariant.1; resolves = term_binder_lost args.s.now args.raw.now (names_in args.declared.now) (kinds_in args.declared.now) args.scope.now args.n args.from.at args.after args.from.w args.out.now here.p here.m here.r here.v here.scope here.out here.invariant.2 (sym c.peek-k.ensures ∙ c.if-k-eq-SUM_TAG.true) c.binder.new.out c.in_err-b.ensures.binds })

pub term-overflow_add-m : goal.term-overflow_add-m
term-overflow_add-m t c =
    let here = c.loop-p in
    let q = c.requires in
    let i = here.invariant.0 in
    let h = c.loop-p-test.true in
    let j = here.invariant.0.2 (omega arith) in
    omega arith

pub term-loop-p-smaller-then-k-eq-SUM_TAG : goal.term-loop-p-smaller-then-k-eq-SUM_TAG
term-loop-p-smaller-then-k-eq-SUM_TAG t c =
    let q = c.requires in
    let i = c.loop-p.invariant.0 in
    let a = c.in_ok-b.ensures.ahead in
    omega arith

pub term-loop-p-preserved-then-k-eq-SUM_TAG : goal.term-loop-p-preserved-then-k-eq-SUM_TAG
term-loop-p-preserved-then-k-eq-SUM_TAG t c =
    let args = c.args in
    let here = c.loop-p in
    let loop-test = c.loop-p-test in
    let binder = c.binder in
    let q = c.requires in
    let i = here.invariant.0 in
    let h = loop-test.true in
    let j = here.invariant.0.2 (omega arith) in
    let a = c.in_ok-b.ensures.ahead in
    let k = binder.auto.scope in
    let l = binder.auto.out in
    ((omega arith, omega arith, λ h. (let d = c.in_ok-b.ensures.bound.0 in omega arith), omega arith, omega arith), kept_on args.n here.m binder.new.scope here.scope args.scope.now here.invariant.0.1 c.in_ok-b.ensures.kept here.invariant.1, term_binder args.s.now args.raw.now (names_in args.declared.now) (kinds_in args.declared.now) args.scope.now args.n args.from.at args.after args.from.w args.out.now here.p here.m here.r here.v here.scope here.out here.invariant.2 (sym c.peek-k.ensures ∙ c.if-k-eq-SUM_TAG.true) loop-test.true (let w = here.invariant.0.3 in let f = q.0.scope_many in w ∙ f) q.0.kinds_few.sorts_few c.in_ok-b.b binder.new.out c.in_ok-b.ensures.binds binder.new.scope c.in_ok-b.ensures.bound)

pub term-named_part-requires : goal.term-named_part-requires
term-named_part-requires t c =
    let here = c.loop-p in
    let q = c.requires in
    let i = here.invariant.0 in
    let h = c.loop-p-test.true in
    let j = here.invariant.0.2 (omega arith) in
    (omega arith, omega arith, c.requires.1)

pub term-shape_of-scope-then-tokens-gt0 : goal.term-shape_of-scope-then-tokens-gt0
term-shape_of-scope-then-tokens-gt0 t c = c.loop-p.invariant.0.3

pub term-shape_of-out-then-tokens-gt0 : goal.term-shape_of-out-then-tokens-gt0
term-shape_of-out-then-tokens-gt0 t c = c.named_part.auto.out ∙ c.loop-p.invariant.0.4

pub term-returns-then-tokens-gt0 : goal.term-returns-then-tokens-gt0
term-returns-then-tokens-gt0 t c =
    let args = c.args in
    let here = c.loop-p in
    let named-part = c.named_part in
    let cell = c.peek-k in
    let q = c.requires in
    let i = here.invariant.0 in
    let k = sym (c.tokens.ensures.0 ∙ ap tokens_of cell.ensures) in
    record { ahead = later args.from.at here.p named-part.result named-part.ensures.ahead (omega arith); kept = here.invariant.1; resolves = term_named args.s.now args.raw.now (names_in args.declared.now) (kinds_in args.declared.now) args.scope.now args.n args.from.at args.after args.from.w args.out.now here.p here.m here.r here.v here.scope here.out here.invariant.2 c.loop-p-test.true (omega arith) (λ e. c.if-k-eq-SUM_TAG.false (cell.ensures ∙ e)) named-part.result named-part.new.out named-part.ensures.resolves }

pub term-shape_of-scope-then-f-eq0 : goal.term-shape_of-scope-then-f-eq0
term-shape_of-scope-then-f-eq0 t c = c.loop-p.invariant.0.3

pub term-shape_of-out-then-f-eq0 : goal.term-shape_of-out-then-f-eq0
term-shape_of-out-then-f-eq0 t c = c.constant.auto.out ∙ c.loop-p.invariant.0.4

pub term-returns-then-f-eq0 : goal.term-returns-then-f-eq0
term-returns-then-f-eq0 t c =
    let args = c.args in
    let here = c.loop-p in
    let cell = c.peek-k in
    let constant = c.constant in
    let q = c.requires in
    let i = here.invariant.0 in
    let x = sym (c.tokens.ensures.0 ∙ ap tokens_of cell.ensures) in
    let y = sym (c.kids-f.ensures.0 ∙ ap kids_of cell.ensures) in
    record { ahead = later args.from.at here.p constant.result constant.ensures.ahead (omega arith); kept = here.invariant.1; resolves = term_constant args.s.now args.raw.now (names_in args.declared.now) (kinds_in args.declared.now) args.scope.now args.n args.from.at args.after args.from.w args.out.now here.p here.m here.r here.v here.scope here.out here.invariant.2 c.loop-p-test.true (omega arith) (omega arith) constant.result constant.new.out constant.ensures.resolves }

pub term-loop-p-preserved-then-f-eq1 : goal.term-loop-p-preserved-then-f-eq1
term-loop-p-preserved-then-f-eq1 t c =
    let args = c.args in
    let here = c.loop-p in
    let loop-test = c.loop-p-test in
    let cell = c.peek-k in
    let q = c.requires in
    let i = here.invariant.0 in
    let h = loop-test.true in
    let j = here.invariant.0.2 (omega arith) in
    let x = sym (c.tokens.ensures.0 ∙ ap tokens_of cell.ensures) in
    let y = sym (c.kids-f.ensures.0 ∙ ap kids_of cell.ensures) in
    (omega arith, here.invariant.1, term_single args.s.now args.raw.now (names_in args.declared.now) (kinds_in args.declared.now) args.scope.now args.n args.from.at args.after args.from.w args.out.now here.p here.m here.r here.v here.scope here.out here.invariant.2 (omega arith) (omega arith) loop-test.true)

pub term-first_part-requires : goal.term-first_part-requires
term-first_part-requires t c =
    let here = c.loop-p in
    let q = c.requires in
    let i = here.invariant.0 in
    let h = c.loop-p-test.true in
    let j = here.invariant.0.2 (omega arith) in
    (omega arith, (omega arith, omega arith, c.requires.1))

pub term-shape_of-scope-in_err-h : goal.term-shape_of-scope-in_err-h
term-shape_of-scope-in_err-h t c = c.first_part.auto.scope ∙ c.loop-p.invariant.0.3

pub term-shape_of-out-in_err-h : goal.term-shape_of-out-in_err-h
term-shape_of-out-in_err-h t c = c.first_part.auto.out ∙ c.loop-p.invariant.0.4

pub term-returns-in_err-h : goal.term-returns-in_err-h
term-returns-in_err-h t c =
    let args = c.args in
    let here = c.loop-p in
    let y = sym (c.kids-f.ensures.0 ∙ ap kids_of c.peek-k.ensures) in
    rw c.from_residual-in_err-h.ensures (record { ahead = tt; kept = kept_on args.n here.m c.first_part.new.scope here.scope args.scope.now here.invariant.0.1 c.in_err-h.ensures.kept here.invariant.1; resolves = term_first_lost args.s.now args.raw.now (names_in args.declared.now) (kinds_in args.declared.now) args.scope.now args.n args.from.at args.after args.from.w args.out.now here.p here.m here.r here.v here.scope here.out here.invariant.2 (let g = c.if-f-eq0.false in let g₁ = c.if-f-eq1.false in omega arith) c.first_part.new.out c.in_err-h.ensures.resolves })

pub term-loop-p-smaller : goal.term-loop-p-smaller
term-loop-p-smaller t c =
    let q = c.requires in
    let i = c.loop-p.invariant.0 in
    let a = c.in_ok-h.ensures.ahead in
    let h = c.loop-p-test.true in
    omega arith

pub term-loop-p-preserved : goal.term-loop-p-preserved
term-loop-p-preserved t c =
    let args = c.args in
    let here = c.loop-p in
    let loop-test = c.loop-p-test in
    let cell = c.peek-k in
    let called = c.first_part in
    let q = c.requires in
    let i = here.invariant.0 in
    let h = loop-test.true in
    let j = here.invariant.0.2 (omega arith) in
    let y = sym (c.kids-f.ensures.0 ∙ ap kids_of cell.ensures) in
    let a = c.in_ok-h.ensures.ahead in
    let k = called.auto.scope in
    let l = called.auto.out in
    (omega arith, kept_on args.n here.m called.new.scope here.scope args.scope.now here.invariant.0.1 c.in_ok-h.ensures.kept here.invariant.1, term_second args.s.now args.raw.now (names_in args.declared.now) (kinds_in args.declared.now) args.scope.now args.n args.from.at args.after args.from.w args.out.now here.p here.m here.r here.v here.scope here.out here.invariant.2 (let g = c.if-f-eq0.false in let g₁ = c.if-f-eq1.false in omega arith) loop-test.true c.in_ok-h.h called.new.out c.in_ok-h.ensures.resolves called.new.scope c.in_ok-h.ensures.kept cell.result cell.ensures)

pub term-shape_of-scope : goal.term-shape_of-scope
term-shape_of-scope t c = c.loop-p.invariant.0.3

pub term-shape_of-out : goal.term-shape_of-out
term-shape_of-out t c = c.loop-p.invariant.0.4

pub term-returns : goal.term-returns
term-returns t c =
    let args = c.args in
    let here = c.loop-p in
    let i = here.invariant.0 in
    record { ahead = tt; kept = here.invariant.1; resolves = term_end args.s.now args.raw.now (names_in args.declared.now) (kinds_in args.declared.now) args.scope.now args.n args.from.at args.after args.from.w args.out.now here.p here.m here.r here.v here.scope here.out here.invariant.2 c.loop-p-test.false }
