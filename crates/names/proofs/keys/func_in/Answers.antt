-- Those of one kind stand together.
use native.Mathlib.Omega.{arith}
use Rattle.names.specs.NameKinds.{total_of, funcs_in}
use Rattle.names.specs.NameList.{names_in, nexts_in, firsts_in, kinds_in}
use Rattle.names.proofs.KeyLaws.{keyed_fewer}
use Rattle.names.proofs.keys.func_in.Goals as goal

pub number_in-requires : goal.number_in-requires
number_in-requires c = keyed_fewer c.args.s.now (names_in c.args.declared.now) (nexts_in c.args.declared.now) (firsts_in c.args.declared.now) _ (total_of (kinds_in c.args.declared.now)) (omega arith) c.requires

pub returns-clause-most : goal.returns-clause-most
returns-clause-most c = rw (← c.cell.ensures.0) c.number_in.ensures.most

pub returns-clause-number : goal.returns-clause-number
unfolding funcs_in
returns-clause-number c = rw (← c.cell-lo.ensures.0, ← c.cell.ensures.0) c.number_in.ensures.number
