-- `blocks::crc::entry_at`: a byte is below 256.
use native.Mathlib.Omega.{arith}
use Rattle.blocks.proofs.crc.entry_at.Goals as goal

pub overflow_cast-s : goal.overflow_cast-s
overflow_cast-s c = omega (arith, c.type_inv.s c.args.i)

pub entry-requires : goal.entry-requires
entry-requires c = omega (arith, c.type_inv.s c.args.i)
