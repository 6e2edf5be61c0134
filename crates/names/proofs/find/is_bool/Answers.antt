-- "Bool" is compared byte by byte, and nothing of the run stands behind it.
use native.Mathlib.Omega.{arith}
use Rattle.names.proofs.Runs.{spells_bool}
use Rattle.names.proofs.find.is_bool.Goals as goal

pub returns : goal.returns
returns c = spells_bool c.args.s.now c.args.a c.first_byte-p.result c.first_byte-p.ensures.0 (omega arith) (omega arith) (omega arith) (omega arith) (omega arith)
