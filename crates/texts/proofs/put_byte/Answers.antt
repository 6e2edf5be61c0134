-- The byte where there is room for it.
use native.Mathlib.Omega.{arith}
use Rattle.texts.proofs.Writing.{wrote_byte, wrote_full}
use Rattle.texts.proofs.put_byte.Goals as goal

pub returns-then-at-out : goal.returns-then-at-out
returns-then-at-out c = wrote_byte c.args.out.now c.args.at c.args.b (omega arith)

pub returns : goal.returns
returns c = wrote_full c.args.out.now c.args.at _ (omega arith)
