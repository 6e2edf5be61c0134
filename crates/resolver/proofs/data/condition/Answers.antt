-- A place for the length, the data term, and then the length.
use mathlib.Core.Path.{◌∙◌}
use Rattle.names.specs.NameList.{names_in, kinds_in}
use Rattle.resolver.proofs.GivenLaws.{condition_took, condition_lost}
use Rattle.resolver.proofs.data.condition.Goals as goal

pub data_term-requires : goal.data_term-requires
data_term-requires c = c.requires

pub shape_of-out-in_err-d : goal.shape_of-out-in_err-d
shape_of-out-in_err-d c = c.data_term.auto.out ∙ (c.put-v.auto.out ∙ c.put-c.auto.out)

pub returns-in_err-d : goal.returns-in_err-d
returns-in_err-d c =
    let args = c.args in
    rw c.from_residual.ensures (condition_lost args.s.now args.raw.now (names_in args.declared.now) (kinds_in args.declared.now) args.scope.now args.n args.at args.w args.out.now c.put-v.result c.put-v.new.out c.data_term.new.out c.in_err-d.ensures.resolves)

pub shape_of-out : goal.shape_of-out
shape_of-out c = c.put.auto.out ∙ (c.data_term.auto.out ∙ (c.put-v.auto.out ∙ c.put-c.auto.out))

pub returns : goal.returns
returns c =
    let args = c.args in
    let put = c.put-c in
    let put2 = c.put-v in
    let span = c.span in
    let put3 = c.put in
    condition_took args.s.now args.raw.now (names_in args.declared.now) (kinds_in args.declared.now) args.scope.now args.n args.at args.w args.out.now put.result put2.result put.new.out put2.new.out put.ensures put2.ensures c.in_ok-d.d c.data_term.new.out span.result put3.result put3.new.out c.in_ok-d.ensures.resolves span.ensures put3.ensures
