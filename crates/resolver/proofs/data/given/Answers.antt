-- Places for the counts, the data terms, and then the counts.
use Rattle.std.specs.Prelude.{None}
use mathlib.Core.Path.{sym, ◌∙◌}
use native.Mathlib.Omega.{arith}
use Rattle.laws.specs.Places.{get_or_positive}
use Rattle.names.specs.NameList.{names_in, kinds_in}
use Rattle.resolver.proofs.GivenLaws.{given_lost, given_bare, given_data_lost, given_took}
use Rattle.resolver.proofs.data.given.Goals as goal

pub overflow_add-result : goal.overflow_add-result
overflow_add-result c =
    let args = c.args in
    let l = get_or_positive args.raw.now args.at (let k = c.peek-k.ensures in omega arith) in
    omega arith

pub shape_of-out-then-k-eq-BARE_TAG : goal.shape_of-out-then-k-eq-BARE_TAG
shape_of-out-then-k-eq-BARE_TAG c = c.put-v.auto.out ∙ c.put-c.auto.out

pub returns-then-k-eq-BARE_TAG : goal.returns-then-k-eq-BARE_TAG
returns-then-k-eq-BARE_TAG c =
    let args = c.args in
    let put = c.put-c in
    let put2 = c.put-v in
    record { ahead = omega arith; resolves = given_bare args.s.now args.raw.now (names_in args.declared.now) (kinds_in args.declared.now) args.scope.now args.n args.at args.w args.out.now put.result put2.result put.new.out put2.new.out put.ensures put2.ensures (sym c.peek-k.ensures ∙ c.if-k-eq-BARE_TAG.true) }

pub shape_of-out-then-k-ne-GIVEN_TAG : goal.shape_of-out-then-k-ne-GIVEN_TAG
shape_of-out-then-k-ne-GIVEN_TAG c = c.put-v.auto.out ∙ c.put-c.auto.out

pub returns-then-k-ne-GIVEN_TAG : goal.returns-then-k-ne-GIVEN_TAG
returns-then-k-ne-GIVEN_TAG c =
    let args = c.args in
    let cell = c.peek-k in
    record { ahead = tt; resolves = given_lost args.s.now args.raw.now (names_in args.declared.now) (kinds_in args.declared.now) args.scope.now args.n args.at args.w args.out.now None c.put-v.new.out (λ e. c.if-k-eq-BARE_TAG.false (cell.ensures ∙ e)) (λ e. c.if-k-ne-GIVEN_TAG.true (cell.ensures ∙ e)) }

pub overflow_add-at : goal.overflow_add-at
overflow_add-at c =
    let args = c.args in
    let l = get_or_positive args.raw.now args.at (let k = c.peek-k.ensures in omega arith) in
    omega arith

pub data_list-requires : goal.data_list-requires
data_list-requires c = let q = c.requires.0 in (omega arith, c.requires.1)

pub shape_of-out-in_err-l : goal.shape_of-out-in_err-l
shape_of-out-in_err-l c = c.data_list.auto.out ∙ (c.put-v.auto.out ∙ c.put-c.auto.out)

pub returns-in_err-l : goal.returns-in_err-l
returns-in_err-l c =
    let args = c.args in
    let put = c.put-c in
    let put2 = c.put-v in
    rw c.from_residual.ensures (record { ahead = tt; resolves = given_data_lost args.s.now args.raw.now (names_in args.declared.now) (kinds_in args.declared.now) args.scope.now args.n args.at args.w args.out.now put.result put2.result put.new.out put2.new.out put.ensures put2.ensures (sym c.peek-k.ensures ∙ (let z = c.if-k-ne-GIVEN_TAG.false in omega arith)) c.data_list.new.out c.in_err-l.ensures.resolves })

pub shape_of-out : goal.shape_of-out
shape_of-out c = c.put-2.auto.out ∙ (c.put.auto.out ∙ (c.data_list.auto.out ∙ (c.put-v.auto.out ∙ c.put-c.auto.out)))

pub returns : goal.returns
returns c =
    let args = c.args in
    let l = get_or_positive args.raw.now args.at (let k = c.peek-k.ensures in omega arith) in
    let list = c.data_list in
    let put = c.put-c in
    let put2 = c.put-v in
    let put3 = c.put in
    let put4 = c.put-2 in
    let span = c.span in
    let a = c.in_ok-l.ensures.ahead in
    record { ahead = omega arith; resolves = given_took args.s.now args.raw.now (names_in args.declared.now) (kinds_in args.declared.now) args.scope.now args.n args.at args.w args.out.now put.result put2.result put.new.out put2.new.out put.ensures put2.ensures (sym c.peek-k.ensures ∙ (let z = c.if-k-ne-GIVEN_TAG.false in omega arith)) c.in_ok-l.l list.new.out c.short.result put3.result put3.new.out span.result put4.result put4.new.out c.in_ok-l.ensures.resolves c.short.ensures put3.ensures span.ensures put4.ensures }
