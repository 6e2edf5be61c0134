-- A byte is put where there is a place for it.
use native.Mathlib.Omega.{arith}
use Rattle.emit.proofs.Putting.{puts_one, no_place}
use Rattle.emit.proofs.bytes.put.Goals as goal

pub returns-then-w-out : goal.returns-then-w-out
returns-then-w-out c = no_place c.args.b c.args.w c.args.out.now (omega arith)

pub returns : goal.returns
returns c = puts_one c.args.b c.args.w c.args.out.now (omega arith)
