-- A right side is a choice that stands after no first part.
use Rattle.names.specs.NameList.{names_in, kinds_in}
use Rattle.resolver.proofs.EntryLaws.{right_answered}
use Rattle.resolver.proofs.entry.right_side.Goals as goal

pub term-requires : goal.term-requires
term-requires c = c.requires

pub shape_of-scope : goal.shape_of-scope
shape_of-scope c = c.term.auto.scope

pub shape_of-out : goal.shape_of-out
shape_of-out c = c.term.auto.out

pub returns : goal.returns
returns c = record { kept = c.term.ensures.kept; resolves = right_answered c.args.s.now c.args.raw.now (names_in c.args.declared.now) (kinds_in c.args.declared.now) c.args.scope.now c.args.n c.args.at c.args.w c.args.out.now c.term.result c.term.new.out c.term.ensures.resolves }
