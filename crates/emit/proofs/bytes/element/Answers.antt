-- Past the end the element is 0.
use mathlib.Core.Path.{sym}
use native.Mathlib.Omega.{arith}
use lib.ListN.{get_or-eq_default}
use Rattle.emit.proofs.bytes.element.Goals as goal

pub returns-else-i-s : goal.returns-else-i-s
returns-else-i-s c = sym (get_or-eq_default c.args.s.now 0 (omega arith))

pub returns-else-a-s : goal.returns-else-a-s
returns-else-a-s c = sym (get_or-eq_default c.args.s.now 0 (omega arith))
