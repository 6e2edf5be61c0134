-- The letters and then the index.
use native.Mathlib.Omega.{arith}
use Rattle.texts.proofs.Writing.{wrote_more}
use Rattle.lettering.proofs.put_letters.Goals as goal

pub returns : goal.returns
returns c = wrote_more _ _ _ _ _ _ _ _ (omega (arith, c.requires)) c.put_run-p.ensures c.put_decimal.ensures
