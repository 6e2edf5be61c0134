-- `cells::put` meets its contract: a cell past the end is not written, as `set` leaves a list alone there.
use mathlib.Core.Path.{sym}
use native.Mathlib.Omega.{arith}
use lib.Seq.{set_out}
use Rattle.parser.proofs.cells.put.Goals as goal

pub returns-else-w-out : goal.returns-else-w-out
returns-else-w-out c = record { next = λ h. absurd (omega arith); cells = sym (set_out c.args.out.now c.args.w c.args.v c.if-w-out.false) }
