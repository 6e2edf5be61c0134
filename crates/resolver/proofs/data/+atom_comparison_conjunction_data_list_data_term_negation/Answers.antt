-- Data terms of all levels and lists of them, in one proof: the place goes on at each call but that of an atom, which stands last.
use Rattle.std.specs.Prelude.{None}
use mathlib.Core.Path.{refl, sym, ◌∙◌}
use Prim.Native.Nat.{◌+◌}
use native.Mathlib.Omega.{arith}
use Rattle.laws.specs.Places.{get_or_positive}
use Rattle.pcrl.specs.Names.{number_of}
use Rattle.names.specs.NameCells.{name_at, scope_at}
use Rattle.names.specs.NameKinds.{funcs_in}
use Rattle.names.proofs.Numbers.{is_found, not_found}
use Rattle.names.specs.NameList.{names_in, kinds_in}
use Rattle.parser.specs.Cells.{enc_conjunction, enc_comparison}
use Rattle.resolver.specs.Resolving.{conjunction_cells, comparison_cells}
use Rattle.resolver.proofs.DataLaws.{value_lost, value_took, variable_lost, variable_took, apply_lost, apply_data_lost, apply_took, nest_took, other_lost, list_start, list_step, list_step_lost, list_lost, list_took, list_took_lost, later}
use Rattle.resolver.proofs.OperatorLaws.{nots_start, nots_step, nots_end, alone_took, comparison_lost, equal_took, equal_first_lost, equal_second_lost, operands_start, operands_step, conjunction_lost, conjunct_lost, conjunction_took, data_lost, disjunct_lost, data_took}
use Rattle.resolver.proofs.data.+atom_comparison_conjunction_data_list_data_term_negation.Goals as goal

pub atom-overflow_add-at : goal.atom-overflow_add-at
atom-overflow_add-at t c =
    let args = c.args in
    let l = get_or_positive args.raw.now args.at (let k = c.peek-k.ensures in omega arith) in
    omega arith

pub atom-data_term-requires : goal.atom-data_term-requires
atom-data_term-requires t c =
    let args = c.args in
    let q = c.requires.0 in
    let l = get_or_positive args.raw.now args.at (let k = c.peek-k.ensures in omega arith) in
    (omega arith, (omega arith, c.requires.1))

pub atom-shape_of-out-then-k-eq-NEST_TAG : goal.atom-shape_of-out-then-k-eq-NEST_TAG
atom-shape_of-out-then-k-eq-NEST_TAG t c = c.data_term.auto.out

pub atom-returns-then-k-eq-NEST_TAG : goal.atom-returns-then-k-eq-NEST_TAG
atom-returns-then-k-eq-NEST_TAG t c =
    let args = c.args in
    let called = c.data_term in
    record { ahead = later args.at (args.at + 1) called.result called.ensures.ahead (omega arith); resolves = nest_took args.s.now args.raw.now (names_in args.declared.now) (kinds_in args.declared.now) args.scope.now args.n args.at args.w args.out.now (sym c.peek-k.ensures ∙ c.if-k-eq-NEST_TAG.true) called.result called.new.out called.ensures.resolves }

pub atom-overflow_add-at-then-k-eq-VALUE_TAG : goal.atom-overflow_add-at-then-k-eq-VALUE_TAG
atom-overflow_add-at-then-k-eq-VALUE_TAG t c =
    let args = c.args in
    let l = get_or_positive args.raw.now args.at (let k = c.peek-k.ensures in omega arith) in
    omega arith

pub atom-returns-then-c-lt-FIRST_NUMERAL : goal.atom-returns-then-c-lt-FIRST_NUMERAL
atom-returns-then-c-lt-FIRST_NUMERAL t c =
    let args = c.args in
    record { ahead = tt; resolves = value_lost args.s.now args.raw.now (names_in args.declared.now) (kinds_in args.declared.now) args.scope.now args.n args.at args.w args.out.now (sym c.peek-k.ensures ∙ c.if-k-eq-VALUE_TAG.true) None args.out.now (λ v h. let a = h.least in let b = c.peek-c.ensures in omega arith) }

pub atom-returns-then-c-ge-FIRST_NAME : goal.atom-returns-then-c-ge-FIRST_NAME
atom-returns-then-c-ge-FIRST_NAME t c =
    let args = c.args in
    record { ahead = tt; resolves = value_lost args.s.now args.raw.now (names_in args.declared.now) (kinds_in args.declared.now) args.scope.now args.n args.at args.w args.out.now (sym c.peek-k.ensures ∙ c.if-k-eq-VALUE_TAG.true) None args.out.now (λ v h. let a = h.most in let b = c.peek-c.ensures in omega arith) }

pub atom-overflow_add-result : goal.atom-overflow_add-result
atom-overflow_add-result t c =
    let args = c.args in
    let l = get_or_positive args.raw.now args.at (let k = c.peek-k.ensures in omega arith) in
    omega arith

pub atom-shape_of-out-then-k-eq-VALUE_TAG : goal.atom-shape_of-out-then-k-eq-VALUE_TAG
atom-shape_of-out-then-k-eq-VALUE_TAG t c = c.put.auto.out

pub atom-returns-then-k-eq-VALUE_TAG : goal.atom-returns-then-k-eq-VALUE_TAG
atom-returns-then-k-eq-VALUE_TAG t c =
    let args = c.args in
    let cell2 = c.peek-c in
    let put = c.put in
    record { ahead = omega arith; resolves = value_took args.s.now args.raw.now (names_in args.declared.now) (kinds_in args.declared.now) args.scope.now args.n args.at args.w args.out.now (sym c.peek-k.ensures ∙ c.if-k-eq-VALUE_TAG.true) cell2.result _ put.result put.new.out cell2.ensures refl put.ensures }

pub atom-overflow_add-at-then-k-eq-VARIABLE_TAG : goal.atom-overflow_add-at-then-k-eq-VARIABLE_TAG
atom-overflow_add-at-then-k-eq-VARIABLE_TAG t c =
    let args = c.args in
    let l = get_or_positive args.raw.now args.at (let k = c.peek-k.ensures in omega arith) in
    omega arith

pub atom-scope_number-requires : goal.atom-scope_number-requires
atom-scope_number-requires t c = let q = c.requires.0 in omega arith

pub atom-overflow_add-result-then-k-eq-VARIABLE_TAG : goal.atom-overflow_add-result-then-k-eq-VARIABLE_TAG
atom-overflow_add-result-then-k-eq-VARIABLE_TAG t c =
    let args = c.args in
    let l = get_or_positive args.raw.now args.at (let k = c.peek-k.ensures in omega arith) in
    omega arith

pub atom-shape_of-out-then-k-eq-VARIABLE_TAG : goal.atom-shape_of-out-then-k-eq-VARIABLE_TAG
atom-shape_of-out-then-k-eq-VARIABLE_TAG t c = c.put-then-k-eq-VARIABLE_TAG.auto.out

pub atom-returns-then-k-eq-VARIABLE_TAG : goal.atom-returns-then-k-eq-VARIABLE_TAG
atom-returns-then-k-eq-VARIABLE_TAG t c =
    let args = c.args in
    let cell3 = c.peek in
    let i = c.in_ok-i.i in
    let less = c.in_ok-i.ensures.most in
    let short = c.short in
    let put2 = c.put-then-k-eq-VARIABLE_TAG in
    let q = c.requires in
    record {
      ahead = omega arith;
      resolves = variable_took args.s.now args.raw.now (names_in args.declared.now) (kinds_in args.declared.now) args.scope.now args.n args.at args.w args.out.now (sym c.peek-k.ensures ∙ c.if-k-eq-VARIABLE_TAG.true) cell3.result cell3.ensures i short.result put2.result put2.new.out
          (is_found (number_of (name_at args.s.now cell3.result) (scope_at args.s.now args.scope.now args.n)) i c.in_ok-i.ensures.number) (short.ensures (omega arith)) put2.ensures;
    }

pub atom-returns-then-k-ne-APPLY_TAG : goal.atom-returns-then-k-ne-APPLY_TAG
atom-returns-then-k-ne-APPLY_TAG t c =
    let args = c.args in
    let cell = c.peek-k in
    record { ahead = tt; resolves = other_lost args.s.now args.raw.now (names_in args.declared.now) (kinds_in args.declared.now) args.scope.now args.n args.at args.w args.out.now None args.out.now (λ e. c.if-k-eq-VALUE_TAG.false (cell.ensures ∙ e)) (λ e. c.if-k-eq-VARIABLE_TAG.false (cell.ensures ∙ e)) (λ e. c.if-k-ne-APPLY_TAG.true (cell.ensures ∙ e)) (λ e. c.if-k-eq-NEST_TAG.false (cell.ensures ∙ e)) }

pub atom-overflow_add-at-2 : goal.atom-overflow_add-at-2
atom-overflow_add-at-2 t c =
    let args = c.args in
    let l = get_or_positive args.raw.now args.at (let k = c.peek-k.ensures in omega arith) in
    omega arith

pub atom-func_in-requires : goal.atom-func_in-requires
atom-func_in-requires t c = c.requires.1

pub atom-overflow_add-at-3 : goal.atom-overflow_add-at-3
atom-overflow_add-at-3 t c =
    let args = c.args in
    let q = c.requires.0 in
    let z = c.if-k-ne-APPLY_TAG.false in
    let l = get_or_positive args.raw.now args.at (let k = c.peek-k.ensures in omega arith) in
    omega arith

pub atom-data_list-requires : goal.atom-data_list-requires
atom-data_list-requires t c =
    let args = c.args in
    let q = c.requires.0 in
    let z = c.if-k-ne-APPLY_TAG.false in
    let l = get_or_positive args.raw.now args.at (let k = c.peek-k.ensures in omega arith) in
    (omega arith, (omega arith, c.requires.1))

pub atom-shape_of-out : goal.atom-shape_of-out
atom-shape_of-out t c = c.put-2.auto.out ∙ c.data_list.auto.out ∙ c.put-d.auto.out ∙ c.put-v.auto.out

pub atom-returns : goal.atom-returns
atom-returns t c =
    let args = c.args in
    let cell = c.peek-k in
    let called = c.data_list in
    let cell4 = c.peek-2 in
    let f = c.in_ok-f.f in
    let less = c.in_ok-f.ensures.most in
    let short2 = c.short-2 in
    let put3 = c.put-v in
    let put4 = c.put-d in
    let put5 = c.put-2 in
    let short3 = c.short-3 in
    let q = c.requires in
    let z = c.if-k-ne-APPLY_TAG.false in
    let k = cell.ensures in
    let l = get_or_positive args.raw.now args.at (omega arith) in
    let a = c.in_ok-l.ensures.ahead in
    record { ahead = omega arith; resolves = apply_took args.s.now args.raw.now (names_in args.declared.now) (kinds_in args.declared.now) args.scope.now args.n args.at args.w args.out.now (sym cell.ensures ∙ (omega arith)) cell4.result cell4.ensures f short2.result put3.result put4.result put5.result short3.result c.in_ok-l.l put3.new.out put4.new.out called.new.out put5.new.out (is_found (number_of (name_at args.s.now cell4.result) (funcs_in args.s.now (names_in args.declared.now) (kinds_in args.declared.now))) f c.in_ok-f.ensures.number) (short2.ensures (omega arith)) put3.ensures put4.ensures c.in_ok-l.ensures.resolves short3.ensures put5.ensures }

pub comparison-overflow_add-at : goal.comparison-overflow_add-at
comparison-overflow_add-at t c =
    let args = c.args in
    let l = get_or_positive args.raw.now args.at (let k = c.peek-k.ensures in omega arith) in
    omega arith

pub comparison-negation-requires : goal.comparison-negation-requires
comparison-negation-requires t c =
    let args = c.args in
    let q = c.requires.0 in
    let l = get_or_positive args.raw.now args.at (let k = c.peek-k.ensures in omega arith) in
    (omega arith, (omega arith, c.requires.1))

pub comparison-shape_of-out-then-k-eq-ALONE_TAG : goal.comparison-shape_of-out-then-k-eq-ALONE_TAG
comparison-shape_of-out-then-k-eq-ALONE_TAG t c = c.negation.auto.out

pub comparison-returns-then-k-eq-ALONE_TAG : goal.comparison-returns-then-k-eq-ALONE_TAG
comparison-returns-then-k-eq-ALONE_TAG t c =
    let args = c.args in
    let called = c.negation in
    record { ahead = later args.at (args.at + 1) called.result called.ensures.ahead (omega arith); resolves = alone_took args.s.now args.raw.now (names_in args.declared.now) (kinds_in args.declared.now) args.scope.now args.n args.at args.w args.out.now (sym c.peek-k.ensures ∙ c.if-k-eq-ALONE_TAG.true) called.result called.new.out called.ensures.resolves }

pub comparison-returns-then-k-ne-EQUAL_TAG : goal.comparison-returns-then-k-ne-EQUAL_TAG
comparison-returns-then-k-ne-EQUAL_TAG t c =
    let args = c.args in
    let cell = c.peek-k in
    record { ahead = tt; resolves = comparison_lost args.s.now args.raw.now (names_in args.declared.now) (kinds_in args.declared.now) args.scope.now args.n args.at args.w args.out.now (λ e. c.if-k-eq-ALONE_TAG.false (cell.ensures ∙ e)) (λ e. c.if-k-ne-EQUAL_TAG.true (cell.ensures ∙ e)) None args.out.now }

pub comparison-overflow_add-at-2 : goal.comparison-overflow_add-at-2
comparison-overflow_add-at-2 t c =
    let args = c.args in
    let z = c.if-k-ne-EQUAL_TAG.false in
    let l = get_or_positive args.raw.now args.at (let k = c.peek-k.ensures in omega arith) in
    omega arith

pub comparison-negation-requires-2 : goal.comparison-negation-requires-2
comparison-negation-requires-2 t c =
    let args = c.args in
    let q = c.requires.0 in
    let z = c.if-k-ne-EQUAL_TAG.false in
    let l = get_or_positive args.raw.now args.at (let k = c.peek-k.ensures in omega arith) in
    (omega arith, (omega arith, c.requires.1))

pub comparison-negation-requires-3 : goal.comparison-negation-requires-3
comparison-negation-requires-3 t c =
    let args = c.args in
    let q = c.requires.0 in
    let z = c.if-k-ne-EQUAL_TAG.false in
    let a = c.in_ok-a.ensures.ahead in
    let l = get_or_positive args.raw.now args.at (let k = c.peek-k.ensures in omega arith) in
    (omega arith, (omega arith, c.requires.1))

pub comparison-shape_of-out-in_err-a : goal.comparison-shape_of-out-in_err-a
comparison-shape_of-out-in_err-a t c = c.negation-2.auto.out ∙ c.put-v.auto.out ∙ c.put-c.auto.out

pub comparison-returns-in_err-a : goal.comparison-returns-in_err-a
comparison-returns-in_err-a t c =
    let args = c.args in
    rw c.from_residual.ensures (record { ahead = tt; resolves = equal_first_lost args.s.now args.raw.now (names_in args.declared.now) (kinds_in args.declared.now) args.scope.now args.n args.at args.w args.out.now (sym c.peek-k.ensures ∙ (let z = c.if-k-ne-EQUAL_TAG.false in omega arith)) c.put-v.result c.put-v.new.out c.negation-2.new.out c.in_err-a.ensures.resolves })

pub comparison-shape_of-out-in_err-b : goal.comparison-shape_of-out-in_err-b
comparison-shape_of-out-in_err-b t c = c.negation-3.auto.out ∙ c.negation-2.auto.out ∙ c.put-v.auto.out ∙ c.put-c.auto.out

pub comparison-returns-in_err-b : goal.comparison-returns-in_err-b
comparison-returns-in_err-b t c =
    let args = c.args in
    rw c.from_residual-in_err-b.ensures (record { ahead = tt; resolves = equal_second_lost args.s.now args.raw.now (names_in args.declared.now) (kinds_in args.declared.now) args.scope.now args.n args.at args.w args.out.now (sym c.peek-k.ensures ∙ (let z = c.if-k-ne-EQUAL_TAG.false in omega arith)) c.put-v.result c.put-v.new.out c.in_ok-a.a c.negation-2.new.out c.negation-3.new.out c.in_ok-a.ensures.resolves c.in_err-b.ensures.resolves })

pub comparison-shape_of-out : goal.comparison-shape_of-out
comparison-shape_of-out t c = c.put.auto.out ∙ c.negation-3.auto.out ∙ c.negation-2.auto.out ∙ c.put-v.auto.out ∙ c.put-c.auto.out

pub comparison-returns : goal.comparison-returns
comparison-returns t c =
    let args = c.args in
    let z = c.if-k-ne-EQUAL_TAG.false in
    let l = get_or_positive args.raw.now args.at (let k = c.peek-k.ensures in omega arith) in
    let a = c.in_ok-a.ensures.ahead in
    let b = c.in_ok-b.ensures.ahead in
    record { ahead = omega arith; resolves = equal_took args.s.now args.raw.now (names_in args.declared.now) (kinds_in args.declared.now) args.scope.now args.n args.at args.w args.out.now c.requires.0 c.put-c.result c.put-v.result c.put-c.new.out c.put-v.new.out c.put-c.ensures c.put-v.ensures c.in_ok-a.a c.negation-2.new.out c.in_ok-a.ensures.resolves c.in_ok-b.b c.negation-3.new.out c.in_ok-b.ensures.resolves c.peek-x.result c.peek-y.result c.peek-x.ensures c.peek-y.ensures c.equal_cell.result c.put.result c.put.new.out c.equal_cell.ensures c.put.ensures (sym c.peek-k.ensures ∙ (let z = c.if-k-ne-EQUAL_TAG.false in omega arith)) }

pub conjunction-returns-then-k-lt-FIRST_ANDS : goal.conjunction-returns-then-k-lt-FIRST_ANDS
conjunction-returns-then-k-lt-FIRST_ANDS t c =
    let args = c.args in
    record { ahead = tt; resolves = conjunction_lost args.s.now args.raw.now (names_in args.declared.now) (kinds_in args.declared.now) args.scope.now args.n args.at args.w args.w args.out.now args.out.now (let k = c.peek-k.ensures in omega arith) None args.out.now }

pub conjunction-overflow_add-p : goal.conjunction-overflow_add-p
conjunction-overflow_add-p t c =
    let args = c.args in
    let l = get_or_positive args.raw.now args.at (let k = c.peek-k.ensures in omega arith) in
    omega arith

pub conjunction-loop-init : goal.conjunction-loop-init
conjunction-loop-init t c =
    let args = c.args in
    ((omega arith, omega arith, refl), operands_start enc_comparison comparison_cells args.s.now args.raw.now (names_in args.declared.now) (kinds_in args.declared.now) args.scope.now args.n (args.at + 1) (c.wide-more.result + 1) c.put_joins-v.result c.put_joins-v.new.out)

pub conjunction-comparison-requires : goal.conjunction-comparison-requires
conjunction-comparison-requires t c =
    let args = c.args in
    let q = c.requires.0 in
    let i = c.loop.invariant.0 in
    let l = get_or_positive args.raw.now args.at (let k = c.peek-k.ensures in omega arith) in
    (omega arith, (omega arith, c.requires.1))

pub conjunction-loop-preserved : goal.conjunction-loop-preserved
conjunction-loop-preserved t c =
    let args = c.args in
    let l = get_or_positive args.raw.now args.at (let k = c.peek-k.ensures in let z = c.if-k-lt-FIRST_ANDS.false in omega arith) in
    let h = c.loop-test.true in
    let here = c.loop in
    let called = c.comparison in
    let a = c.in_ok-a.ensures.ahead in
    let i = here.invariant.0 in
    ((omega arith, omega arith, called.auto.out ∙ here.invariant.0.2), operands_step enc_comparison comparison_cells args.s.now args.raw.now (names_in args.declared.now) (kinds_in args.declared.now) args.scope.now args.n (args.at + 1) (c.wide-more.result + 1) c.put_joins-v.result c.put_joins-v.new.out here.p here.v here.counter here.out here.invariant.1 (omega arith) c.in_ok-a.a called.new.out c.in_ok-a.ensures.resolves)

pub conjunction-shape_of-out : goal.conjunction-shape_of-out
conjunction-shape_of-out t c = c.loop.invariant.0.2 ∙ c.put_joins-v.auto.out

pub conjunction-returns : goal.conjunction-returns
conjunction-returns t c =
    let args = c.args in
    let l = get_or_positive args.raw.now args.at (let k = c.peek-k.ensures in omega arith) in
    let here = c.loop in
    let i = here.invariant.0 in
    record { ahead = omega arith; resolves = conjunction_took args.s.now args.raw.now (names_in args.declared.now) (kinds_in args.declared.now) args.scope.now args.n args.at args.w c.put_joins-v.result args.out.now c.put_joins-v.new.out c.wide-more.result here.p here.v here.counter here.out (let k = c.peek-k.ensures in let m = c.wide-more.ensures.0 in omega arith) c.put_joins-v.ensures here.invariant.1 (omega arith) }

pub data_list-loop-out-init : goal.data_list-loop-out-init
data_list-loop-out-init t c =
    let args = c.args in
    ((omega arith, refl), list_start args.s.now args.raw.now (names_in args.declared.now) (kinds_in args.declared.now) args.scope.now args.n args.at args.w args.out.now)

pub data_list-overflow_add-p : goal.data_list-overflow_add-p
data_list-overflow_add-p t c =
    let l = get_or_positive c.args.raw.now c.loop-out.p (let k = c.peek.ensures in omega arith) in
    omega arith

pub data_list-data_term-requires : goal.data_list-data_term-requires
data_list-data_term-requires t c =
    let q = c.requires in
    let l = get_or_positive c.args.raw.now c.loop-out.p (let k = c.peek.ensures in omega arith) in
    (omega arith, (omega arith, c.requires.1))

pub data_list-overflow_add-count : goal.data_list-overflow_add-count
data_list-overflow_add-count t c =
    let l = get_or_positive c.args.raw.now c.loop-out.p (let k = c.peek.ensures in omega arith) in
    omega arith

pub data_list-loop-out-smaller : goal.data_list-loop-out-smaller
data_list-loop-out-smaller t c =
    let l = get_or_positive c.args.raw.now c.loop-out.p (let k = c.peek.ensures in omega arith) in
    let a = c.in_ok-a.ensures.ahead in
    omega arith

pub data_list-loop-out-preserved : goal.data_list-loop-out-preserved
data_list-loop-out-preserved t c =
    let args = c.args in
    let here = c.loop-out in
    let cell = c.peek in
    let called = c.data_term in
    let l = get_or_positive args.raw.now here.p (let k = cell.ensures in omega arith) in
    let a = c.in_ok-a.ensures.ahead in
    ((omega arith, called.auto.out ∙ here.invariant.0.1), list_step args.s.now args.raw.now (names_in args.declared.now) (kinds_in args.declared.now) args.scope.now args.n args.at args.w args.out.now here.p here.v here.count here.out here.invariant.1 (sym cell.ensures ∙ c.loop-out-test.true) c.in_ok-a.a called.new.out c.in_ok-a.ensures.resolves)

pub data_list-shape_of-out-then-peek-ne-ONE_TAG : goal.data_list-shape_of-out-then-peek-ne-ONE_TAG
data_list-shape_of-out-then-peek-ne-ONE_TAG t c = c.loop-out.invariant.0.1

pub data_list-returns-then-peek-ne-ONE_TAG : goal.data_list-returns-then-peek-ne-ONE_TAG
data_list-returns-then-peek-ne-ONE_TAG t c =
    let args = c.args in
    let here = c.loop-out in
    record { ahead = tt; resolves = list_lost args.s.now args.raw.now (names_in args.declared.now) (kinds_in args.declared.now) args.scope.now args.n args.at args.w args.out.now here.p here.v here.count here.out here.invariant.1 (λ e. c.loop-out-test.false (c.peek.ensures ∙ e)) (λ e. c.if-peek-ne-ONE_TAG.true (c.peek-2.ensures ∙ e)) }

pub data_list-overflow_add-p-2 : goal.data_list-overflow_add-p-2
data_list-overflow_add-p-2 t c =
    let l = get_or_positive c.args.raw.now c.loop-out.p (let k = c.peek-2.ensures in omega arith) in
    omega arith

pub data_list-data_term-requires-2 : goal.data_list-data_term-requires-2
data_list-data_term-requires-2 t c =
    let q = c.requires in
    let l = get_or_positive c.args.raw.now c.loop-out.p (let k = c.peek-2.ensures in omega arith) in
    (omega arith, (omega arith, c.requires.1))

pub data_list-overflow_add-result : goal.data_list-overflow_add-result
data_list-overflow_add-result t c =
    let l = get_or_positive c.args.raw.now c.loop-out.p (let k = c.peek-2.ensures in omega arith) in
    omega arith

pub data_list-shape_of-out : goal.data_list-shape_of-out
data_list-shape_of-out t c = c.data_term-2.auto.out ∙ c.loop-out.invariant.0.1

pub data_list-returns : goal.data_list-returns
data_list-returns t c =
    let args = c.args in
    let here = c.loop-out in
    let data-term2 = c.data_term-2 in
    let q = c.requires in
    let l = get_or_positive args.raw.now here.p (let k = c.peek-2.ensures in omega arith) in
    let a = c.in_ok-b.ensures.ahead in
    record { ahead = omega arith; resolves = list_took args.s.now args.raw.now (names_in args.declared.now) (kinds_in args.declared.now) args.scope.now args.n args.at args.w args.out.now here.p here.v here.count here.out here.invariant.1 (omega arith) (omega arith) c.in_ok-b.b data-term2.new.out c.in_ok-b.ensures.resolves }

pub data_term-returns-then-k-lt-FIRST_ORS : goal.data_term-returns-then-k-lt-FIRST_ORS
data_term-returns-then-k-lt-FIRST_ORS t c =
    let args = c.args in
    record { ahead = tt; resolves = data_lost args.s.now args.raw.now (names_in args.declared.now) (kinds_in args.declared.now) args.scope.now args.n args.at args.w args.w args.out.now args.out.now (λ a b. let k = c.peek-k.ensures in omega arith) None args.out.now }

pub data_term-returns-then-k-ge-FIRST_ANDS : goal.data_term-returns-then-k-ge-FIRST_ANDS
data_term-returns-then-k-ge-FIRST_ANDS t c =
    let args = c.args in
    record { ahead = tt; resolves = data_lost args.s.now args.raw.now (names_in args.declared.now) (kinds_in args.declared.now) args.scope.now args.n args.at args.w args.w args.out.now args.out.now (λ a b. let k = c.peek-k.ensures in omega arith) None args.out.now }

pub data_term-overflow_add-p : goal.data_term-overflow_add-p
data_term-overflow_add-p t c =
    let args = c.args in
    let l = get_or_positive args.raw.now args.at (let k = c.peek-k.ensures in omega arith) in
    omega arith

pub data_term-loop-init : goal.data_term-loop-init
data_term-loop-init t c =
    let args = c.args in
    ((omega arith, omega arith, refl), operands_start enc_conjunction conjunction_cells args.s.now args.raw.now (names_in args.declared.now) (kinds_in args.declared.now) args.scope.now args.n (args.at + 1) (c.wide-more.result + 1) c.put_joins-v.result c.put_joins-v.new.out)

pub data_term-conjunction-requires : goal.data_term-conjunction-requires
data_term-conjunction-requires t c =
    let args = c.args in
    let q = c.requires.0 in
    let i = c.loop.invariant.0 in
    let l = get_or_positive args.raw.now args.at (let k = c.peek-k.ensures in omega arith) in
    (omega arith, (omega arith, c.requires.1))

pub data_term-loop-preserved : goal.data_term-loop-preserved
data_term-loop-preserved t c =
    let args = c.args in
    let l = get_or_positive args.raw.now args.at (let k = c.peek-k.ensures in let z = c.if-k-lt-FIRST_ORS.false in omega arith) in
    let h = c.loop-test.true in
    let here = c.loop in
    let called = c.conjunction in
    let a = c.in_ok-a.ensures.ahead in
    let i = here.invariant.0 in
    ((omega arith, omega arith, called.auto.out ∙ here.invariant.0.2), operands_step enc_conjunction conjunction_cells args.s.now args.raw.now (names_in args.declared.now) (kinds_in args.declared.now) args.scope.now args.n (args.at + 1) (c.wide-more.result + 1) c.put_joins-v.result c.put_joins-v.new.out here.p here.v here.counter here.out here.invariant.1 (omega arith) c.in_ok-a.a called.new.out c.in_ok-a.ensures.resolves)

pub data_term-shape_of-out : goal.data_term-shape_of-out
data_term-shape_of-out t c = c.loop.invariant.0.2 ∙ c.put_joins-v.auto.out

pub data_term-returns : goal.data_term-returns
data_term-returns t c =
    let args = c.args in
    let l = get_or_positive args.raw.now args.at (let k = c.peek-k.ensures in omega arith) in
    let here = c.loop in
    let i = here.invariant.0 in
    record { ahead = omega arith; resolves = data_took args.s.now args.raw.now (names_in args.declared.now) (kinds_in args.declared.now) args.scope.now args.n args.at args.w c.put_joins-v.result args.out.now c.put_joins-v.new.out c.wide-more.result here.p here.v here.counter here.out (let k = c.peek-k.ensures in let m = c.wide-more.ensures.0 in omega arith) c.put_joins-v.ensures here.invariant.1 (omega arith) }

pub negation-loop-out-init : goal.negation-loop-out-init
negation-loop-out-init t c =
    let args = c.args in
    ((omega arith, refl), nots_start args.s.now args.raw.now (names_in args.declared.now) (kinds_in args.declared.now) args.scope.now args.n args.at args.w args.out.now)

pub negation-overflow_add-p : goal.negation-overflow_add-p
negation-overflow_add-p t c =
    let args = c.args in
    let here = c.loop-out in
    let l = get_or_positive args.raw.now here.p (let k = c.peek.ensures in omega arith) in
    omega arith

pub negation-loop-out-smaller : goal.negation-loop-out-smaller
negation-loop-out-smaller t c =
    let args = c.args in
    let here = c.loop-out in
    let l = get_or_positive args.raw.now here.p (let k = c.peek.ensures in omega arith) in
    omega arith

pub negation-loop-out-preserved : goal.negation-loop-out-preserved
negation-loop-out-preserved t c =
    let args = c.args in
    let here = c.loop-out in
    let l = get_or_positive args.raw.now here.p (let k = c.peek.ensures in omega arith) in
    ((omega arith, c.put-v.auto.out ∙ c.put-a.auto.out ∙ here.invariant.0.1), nots_step args.s.now args.raw.now (names_in args.declared.now) (kinds_in args.declared.now) args.scope.now args.n args.at args.w args.out.now here.p here.v here.out here.invariant.1 (sym c.peek.ensures ∙ c.loop-out-test.true) c.put-a.result c.put-v.result c.put-a.new.out c.put-v.new.out c.put-a.ensures c.put-v.ensures)

pub negation-atom-requires : goal.negation-atom-requires
negation-atom-requires t c =
    let args = c.args in
    let q = c.requires.0 in
    let i = c.loop-out.invariant.0 in
    (omega arith, (omega arith, c.requires.1))

pub negation-shape_of-out : goal.negation-shape_of-out
negation-shape_of-out t c = c.atom.auto.out ∙ c.loop-out.invariant.0.1

pub negation-returns : goal.negation-returns
negation-returns t c =
    let args = c.args in
    let here = c.loop-out in
    let i = here.invariant.0 in
    record { ahead = later args.at here.p c.atom.result c.atom.ensures.ahead (omega arith); resolves = nots_end args.s.now args.raw.now (names_in args.declared.now) (kinds_in args.declared.now) args.scope.now args.n args.at args.w args.out.now here.p here.v here.out here.invariant.1 (λ e. c.loop-out-test.false (c.peek.ensures ∙ e)) c.atom.result c.atom.new.out c.atom.ensures.resolves }

pub atom-returns-in_err-i : goal.atom-returns-in_err-i
atom-returns-in_err-i t c =
    let args = c.args in
    let cell3 = c.peek in
    rw c.from_residual.ensures (record {
      ahead = tt;
      resolves = variable_lost args.s.now args.raw.now (names_in args.declared.now) (kinds_in args.declared.now) args.scope.now args.n args.at args.w args.out.now (sym c.peek-k.ensures ∙ c.if-k-eq-VARIABLE_TAG.true) cell3.result cell3.ensures args.out.now
          (not_found (number_of (name_at args.s.now cell3.result) (scope_at args.s.now args.scope.now args.n)) c.in_err-i.ensures.number);
    })

pub atom-returns-in_err-f : goal.atom-returns-in_err-f
atom-returns-in_err-f t c =
    let args = c.args in
    let cell4 = c.peek-2 in
    rw c.from_residual-in_err-f.ensures (record {
      ahead = tt;
      resolves = apply_lost args.s.now args.raw.now (names_in args.declared.now) (kinds_in args.declared.now) args.scope.now args.n args.at args.w args.out.now (sym c.peek-k.ensures ∙ (let z = c.if-k-ne-APPLY_TAG.false in omega arith)) cell4.result cell4.ensures args.out.now
          (not_found (number_of (name_at args.s.now cell4.result) (funcs_in args.s.now (names_in args.declared.now) (kinds_in args.declared.now))) c.in_err-f.ensures.number);
    })

pub atom-shape_of-out-in_err-l : goal.atom-shape_of-out-in_err-l
atom-shape_of-out-in_err-l t c = c.data_list.auto.out ∙ c.put-d.auto.out ∙ c.put-v.auto.out

pub atom-returns-in_err-l : goal.atom-returns-in_err-l
atom-returns-in_err-l t c =
    let args = c.args in
    let cell4 = c.peek-2 in
    rw c.from_residual-in_err-l.ensures (record {
      ahead = tt;
      resolves = apply_data_lost args.s.now args.raw.now (names_in args.declared.now) (kinds_in args.declared.now) args.scope.now args.n args.at args.w args.out.now (sym c.peek-k.ensures ∙ (let z = c.if-k-ne-APPLY_TAG.false in omega arith)) cell4.result cell4.ensures c.in_ok-f.f c.put-d.result c.put-d.new.out c.data_list.new.out
          (is_found (number_of (name_at args.s.now cell4.result) (funcs_in args.s.now (names_in args.declared.now) (kinds_in args.declared.now))) c.in_ok-f.f c.in_ok-f.ensures.number) c.in_err-l.ensures.resolves;
    })

pub conjunction-shape_of-out-in_err-a : goal.conjunction-shape_of-out-in_err-a
conjunction-shape_of-out-in_err-a t c = c.comparison.auto.out ∙ c.loop.invariant.0.2 ∙ c.put_joins-v.auto.out

pub conjunction-returns-in_err-a : goal.conjunction-returns-in_err-a
conjunction-returns-in_err-a t c =
    let args = c.args in
    let here = c.loop in
    let i = here.invariant.0 in
    rw c.from_residual.ensures (record { ahead = tt; resolves = conjunct_lost args.s.now args.raw.now (names_in args.declared.now) (kinds_in args.declared.now) args.scope.now args.n args.at args.w c.put_joins-v.result args.out.now c.put_joins-v.new.out c.wide-more.result here.p here.v here.counter here.out (let k = c.peek-k.ensures in let m = c.wide-more.ensures.0 in omega arith) here.invariant.1 (omega arith) c.comparison.new.out c.in_err-a.ensures.resolves })

pub data_term-shape_of-out-in_err-a : goal.data_term-shape_of-out-in_err-a
data_term-shape_of-out-in_err-a t c = c.conjunction.auto.out ∙ c.loop.invariant.0.2 ∙ c.put_joins-v.auto.out

pub data_term-returns-in_err-a : goal.data_term-returns-in_err-a
data_term-returns-in_err-a t c =
    let args = c.args in
    let here = c.loop in
    let i = here.invariant.0 in
    rw c.from_residual.ensures (record { ahead = tt; resolves = disjunct_lost args.s.now args.raw.now (names_in args.declared.now) (kinds_in args.declared.now) args.scope.now args.n args.at args.w c.put_joins-v.result args.out.now c.put_joins-v.new.out c.wide-more.result here.p here.v here.counter here.out (let k = c.peek-k.ensures in let m = c.wide-more.ensures.0 in omega arith) here.invariant.1 (omega arith) c.conjunction.new.out c.in_err-a.ensures.resolves })

pub data_list-shape_of-out-in_err-a : goal.data_list-shape_of-out-in_err-a
data_list-shape_of-out-in_err-a t c = c.data_term.auto.out ∙ c.loop-out.invariant.0.1

pub data_list-returns-in_err-a : goal.data_list-returns-in_err-a
data_list-returns-in_err-a t c =
    let args = c.args in
    let here = c.loop-out in
    rw c.from_residual.ensures (record { ahead = tt; resolves = list_step_lost args.s.now args.raw.now (names_in args.declared.now) (kinds_in args.declared.now) args.scope.now args.n args.at args.w args.out.now here.p here.v here.count here.out here.invariant.1 (sym c.peek.ensures ∙ c.loop-out-test.true) c.data_term.new.out c.in_err-a.ensures.resolves })

pub data_list-shape_of-out-in_err-b : goal.data_list-shape_of-out-in_err-b
data_list-shape_of-out-in_err-b t c = c.data_term-2.auto.out ∙ c.loop-out.invariant.0.1

pub data_list-returns-in_err-b : goal.data_list-returns-in_err-b
data_list-returns-in_err-b t c =
    let args = c.args in
    let here = c.loop-out in
    rw c.from_residual-in_err-b.ensures (record { ahead = tt; resolves = list_took_lost args.s.now args.raw.now (names_in args.declared.now) (kinds_in args.declared.now) args.scope.now args.n args.at args.w args.out.now here.p here.v here.count here.out here.invariant.1 (omega arith) c.data_term-2.new.out c.in_err-b.ensures.resolves })
