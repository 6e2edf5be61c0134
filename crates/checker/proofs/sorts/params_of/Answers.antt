-- `params_of` puts the sorts of a process's row in scope. Invariant: the first i are there.
use Prim.Native.Nat.{ℕ, ◌*◌}
use native.Mathlib.Omega.{arith}
use mathlib.Core.Path.{◌∙◌}
use lib.ListN.{length-replicate, length-set}
use Rattle.nodes.specs.Held.{proc_width}
use Rattle.checker.proofs.Sheets.{params_more, params_done}
use Rattle.checker.proofs.sorts.params_of.Goals as goal

pub loop-i-init : goal.loop-i-init
loop-i-init c = ((omega arith, length-replicate {A = ℕ} 32 0), λ j l. absurd (omega arith))

pub loop-i-preserved : goal.loop-i-preserved
loop-i-preserved c = ((omega arith, length-set c.loop-i.sorts c.loop-i.i c.cell.result ∙ c.loop-i.invariant.0.1), params_more c.args.procs.now (proc_width * c.args.k) c.loop-i.i c.loop-i.sorts c.cell.result (omega arith) c.cell.ensures.0 c.loop-i.invariant.1)

pub returns : goal.returns
returns c = record { sorts_len = c.loop-i.invariant.0.1; params_in_scope = params_done c.args.procs.now (proc_width * c.args.k) c.loop-i.i c.loop-i.sorts (omega arith) c.loop-i.invariant.1 }
