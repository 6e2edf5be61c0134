-- The bytes for which there is room are filled.
use native.Mathlib.Omega.{arith}
use Rattle.texts.proofs.Writing.{wrote_run}
use Rattle.texts.proofs.put_run.Goals as goal

pub returns : goal.returns
returns c = wrote_run c.args.out.now c.args.at c.args.b c.args.n _ _ _ (omega arith) (omega arith) (omega arith) (c.fill.ensures.after (λ y h. h))
