-- The count in the row's first byte says how many follow.
use Rattle.emit.proofs.SignatureLaws.{row_put}
use Rattle.emit.proofs.bytes.put_row.Goals as goal

pub returns : goal.returns
returns c = row_put c.args.w c.args.out.now c.copy.result c.copy.new.out c.args.row.now c.args.p c.cell.result c.cell.ensures.0 c.copy.ensures
