-- Past the end `set` changes nothing.
use mathlib.Core.Path.{sym}
use native.Mathlib.Omega.{arith}
use lib.Seq.{set_out}
use Rattle.initial.proofs.store.Goals as goal

pub returns-else-i-cells : goal.returns-else-i-cells
returns-else-i-cells c = let a = c.args in sym (set_out a.cells.now a.i a.v (omega arith))
