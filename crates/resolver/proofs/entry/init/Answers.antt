-- init is a call, with no name in scope.
use mathlib.Core.Path.{◌∙◌}
use Prim.Native.Nat.{◌+◌}
use native.Mathlib.Omega.{arith}
use Rattle.pcrl.specs.Names.{number_of}
use Rattle.names.specs.NameCells.{name_at}
use Rattle.names.specs.NameKinds.{procs_in}
use Rattle.names.proofs.Numbers.{is_found, not_found}
use Rattle.names.specs.NameList.{names_in, kinds_in}
use Rattle.resolver.proofs.GivenLaws.{node_put}
use Rattle.resolver.proofs.EntryLaws.{init_unknown, init_answered}
use Rattle.resolver.proofs.entry.init.Goals as goal

pub overflow_add-at : goal.overflow_add-at
overflow_add-at c = let q = c.requires in omega arith

pub proc_in-requires : goal.proc_in-requires
proc_in-requires c = c.requires.2

pub returns-in_err-k : goal.returns-in_err-k
returns-in_err-k c =
    let args = c.args in
    rw c.from_residual.ensures (init_unknown args.s.now args.raw.now (names_in args.declared.now) (kinds_in args.declared.now) args.scope.now args.at args.w args.out.now c.peek.result c.peek.ensures
    (not_found (number_of (name_at args.s.now c.peek.result) (procs_in args.s.now (names_in args.declared.now) (kinds_in args.declared.now))) c.in_err-k.ensures.number) args.out.now)

pub overflow_add-at-2 : goal.overflow_add-at-2
overflow_add-at-2 c = let q = c.requires in omega arith

pub given-requires : goal.given-requires
given-requires c = let q = c.requires in let f = q.0 in (omega arith, q.2)

pub shape_of-out : goal.shape_of-out
shape_of-out c = c.given.auto.out ∙ c.put-v.auto.out

pub returns : goal.returns
returns c =
    let args = c.args in
    let put = c.put-v in
    let given = c.given in
    init_answered args.s.now args.raw.now (names_in args.declared.now) (kinds_in args.declared.now) args.scope.now args.at args.w args.out.now c.peek.result c.peek.ensures c.in_ok-k.k
    (is_found (number_of (name_at args.s.now c.peek.result) (procs_in args.s.now (names_in args.declared.now) (kinds_in args.declared.now))) c.in_ok-k.k c.in_ok-k.ensures.number)
    c.first_cell.result c.first_cell.ensures given.result given.new.out
    (node_put args.s.now args.raw.now (names_in args.declared.now) (kinds_in args.declared.now) args.scope.now 0 (args.at + 1) c.first_cell.result args.w args.out.now put.result put.new.out put.ensures given.result given.new.out given.ensures.resolves)
