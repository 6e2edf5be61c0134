-- Bool, or the letter and the number.
use native.Mathlib.Omega.{arith}
use mathlib.Core.List.{[], ◌∷◌}
use Rattle.pcrl.specs.Text.{bytes, byte}
use Rattle.texts.proofs.Writing.{wrote_more, wrote_as}
use Rattle.lettering.specs.Named.{named_by, cell_of, older_by}
use Rattle.lettering.proofs.Cells.{older_first, older_more}
use Rattle.lettering.proofs.put_older.Goals as goal

pub returns-then-d-eq0 : goal.returns-then-d-eq0
returns-then-d-eq0 c =
    let a = c.args in
    wrote_as a.out.now a.at (cell_of (bytes "Bool")) (cell_of (older_by a.n a.d)) _ _ (older_first a.n a.d (omega arith)) c.put_cell.ensures

pub returns : goal.returns
returns c =
    let a = c.args in
    wrote_as a.out.now a.at _ (cell_of (older_by a.n a.d)) _ _ (older_more a.n a.d c.low.result (λ z. omega arith) (omega arith) (omega arith) c.low.ensures)
    (wrote_more a.out.now a.at (c.low.result ∷ []) _ _ (named_by (byte "s") a.n a.d) _ _ (omega arith) c.put_byte-p.ensures c.put_letters.ensures)
