-- `heads::alternatives::recall` meets its contract.
use Rattle.heads.proofs.Remembering.{recalled}
use Rattle.heads.proofs.alternatives.recall.Goals as goal

pub returns-in-Some : goal.returns-in-Some
returns-in-Some c = let a = c.args in let rm = c.requires.2 in let f = c.in-Some in (recalled a.cells.now a.counts.now a.remembered.now f.i a.at a.base a.heads c.found_at.result rm f.ensures.0 f.ensures.1 c.found_at.ensures, rm)

pub reach-f-requires : goal.reach-f-requires
reach-f-requires c = (c.requires.0, c.requires.1)

pub remember-requires : goal.remember-requires
remember-requires c = (c.requires.2, c.reach-f.ensures)

pub shape_of-remembered-then-f-ge-WORK : goal.shape_of-remembered-then-f-ge-WORK
shape_of-remembered-then-f-ge-WORK c = c.remember.auto.l

pub returns-then-f-ge-WORK : goal.returns-then-f-ge-WORK
returns-then-f-ge-WORK c = (c.reach-f.ensures, c.remember.ensures)

pub returns-else-f-ge-WORK : goal.returns-else-f-ge-WORK
returns-else-f-ge-WORK c = (c.reach-f.ensures, c.requires.2)
