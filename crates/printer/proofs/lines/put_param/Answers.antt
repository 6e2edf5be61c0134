-- Three pieces, one behind another.
use native.Mathlib.Omega.{arith}
use Rattle.printer.proofs.Chained.{three}
use Rattle.printer.proofs.lines.put_param.Goals as goal

pub returns : goal.returns
returns c = three _ _ _ _ _ _ _ _ _ _ _ (omega (arith, c.requires)) c.put_name-a.ensures c.put_byte-b.ensures c.put_sort.ensures
