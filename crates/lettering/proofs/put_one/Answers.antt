-- The name that stands in the stream, or the one that the printer gave.
use Rattle.texts.proofs.Writing.{wrote_as}
use Rattle.lettering.specs.Named.{name_by, cell_of}
use Rattle.lettering.proofs.Cells.{name_there, name_older}
use Rattle.lettering.proofs.put_one.Goals as goal

pub returns-then-named : goal.returns-then-named
unfolding name_by
returns-then-named c =
    let a = c.args in
    wrote_as a.out.now _ _ (cell_of (name_by a.named a.s.now a.p a.n a.d)) _ _ (name_there a.named a.s.now a.p a.n a.d _ c.if-named.true c.list_at.ensures) c.put_cell.ensures

pub returns : goal.returns
returns c =
    let a = c.args in
    wrote_as a.out.now _ _ (cell_of (name_by a.named a.s.now a.p a.n a.d)) _ _ (name_older a.named a.s.now a.p a.n a.d c.if-named.false) c.put_older.ensures
