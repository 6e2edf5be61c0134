-- The name is known or not; if it is, its node is written with what is given.
use native.Mathlib.Omega.{arith}
use mathlib.Core.Path.{◌∙◌}
use Rattle.names.specs.NameList.{names_in, kinds_in}
use Rattle.resolver.proofs.GivenLaws.{node_put}
use Rattle.resolver.proofs.NamedLaws.{part_lost, part_took}
use Rattle.resolver.proofs.process.named_part.Goals as goal

pub overflow_add-from : goal.overflow_add-from
overflow_add-from c = let q = c.requires in omega arith

pub named-requires : goal.named-requires
named-requires c = let q = c.requires.0 in (omega arith, omega arith, c.requires.2)

pub returns-in_err-first : goal.returns-in_err-first
returns-in_err-first c =
    let args = c.args in
    rw c.from_residual.ensures (record { ahead = tt; resolves = part_lost args.s.now args.raw.now (names_in args.declared.now) (kinds_in args.declared.now) args.scope.now args.n args.from.at args.after args.from.w args.out.now c.peek.result c.peek.ensures c.in_err-first.ensures args.out.now })

pub given-requires : goal.given-requires
given-requires c = let q = c.requires.0 in (omega arith, c.requires.2)

pub shape_of-out : goal.shape_of-out
shape_of-out c = c.given.auto.out ∙ c.put-v.auto.out

pub returns : goal.returns
returns c =
    let args = c.args in
    let put = c.put-v in
    let given = c.given in
    let head = node_put args.s.now args.raw.now (names_in args.declared.now) (kinds_in args.declared.now) args.scope.now args.n args.from.at c.in_ok-first.first args.from.w args.out.now put.result put.new.out put.ensures given.result given.new.out given.ensures.resolves in
    record { ahead = given.ensures.ahead; resolves = part_took args.s.now args.raw.now (names_in args.declared.now) (kinds_in args.declared.now) args.scope.now args.n args.from.at args.after args.from.w args.out.now c.peek.result c.peek.ensures c.in_ok-first.first c.in_ok-first.ensures given.result given.new.out head }
