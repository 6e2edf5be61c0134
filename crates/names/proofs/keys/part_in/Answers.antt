-- Actions and processes stand together.
use native.Mathlib.Omega.{arith}
use Rattle.names.specs.NameKinds.{total_of}
use Rattle.names.specs.NameList.{names_in, nexts_in, firsts_in, kinds_in}
use Rattle.names.proofs.KeyLaws.{keyed_fewer}
use Rattle.names.proofs.KindLaws.{parts_joined}
use Rattle.names.proofs.keys.part_in.Goals as goal

pub number_in-requires : goal.number_in-requires
number_in-requires c =
    let l = c.args.declared.now in
    keyed_fewer c.args.s.now (names_in l) (nexts_in l) (firsts_in l) _ (total_of (kinds_in l)) (omega arith) c.requires

pub returns-clause-most : goal.returns-clause-most
returns-clause-most c = rw (← c.cell-3.ensures.0, ← c.cell-4.ensures.0) c.number_in.ensures.most

pub returns-clause-number : goal.returns-clause-number
returns-clause-number c =
    rw (← parts_joined c.args.s.now (names_in c.args.declared.now) (kinds_in c.args.declared.now), ← c.cell.ensures.0, ← c.cell-2.ensures.0, ← c.cell-3.ensures.0, ← c.cell-4.ensures.0) c.number_in.ensures.number
