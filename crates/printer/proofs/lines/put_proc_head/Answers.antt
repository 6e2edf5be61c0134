-- Four pieces, one behind another.
use native.Mathlib.Omega.{arith}
use Rattle.printer.proofs.Chained.{four}
use Rattle.printer.proofs.lines.put_proc_head.Goals as goal

pub returns : goal.returns
returns c = four _ _ _ _ _ _ _ _ _ _ _ _ _ _ (omega (arith, c.requires)) c.put_bytes-a.ensures c.put_name-b.ensures c.put_params-c.ensures c.put_byte.ensures
