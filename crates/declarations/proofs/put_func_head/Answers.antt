-- Five pieces, one behind another.
use native.Mathlib.Omega.{arith}
use Rattle.declarations.proofs.Chains.{five}
use Rattle.declarations.proofs.put_func_head.Goals as goal

pub returns : goal.returns
returns c = five _ _ _ _ _ _ _ _ _ _ _ _ _ _ _ _ _ (omega (arith, c.requires)) c.put_bytes-a.ensures c.put_name-b.ensures c.put_byte-c.ensures c.put_takes-d.ensures c.put_bytes.ensures
