-- `heads::remembered::put_entry` meets its contract.
use native.Mathlib.Omega.{arith}
use Prim.Native.Nat.{◌+◌, ◌*◌}
use mathlib.Core.Path.{refl, ◌∙◌}
use lib.ListN.{get_or, length-set}
use Rattle.heads.specs.Memory.{entry_cells}
use Rattle.heads.proofs.Remembering.{put_more}
use Rattle.heads.proofs.remembered.put_entry.Goals as goal

pub loop-j-init : goal.loop-j-init
loop-j-init c = (refl, refl, (omega arith, λ x t. absurd (omega arith), λ x t. refl))

pub loop-j-preserved : goal.loop-j-preserved
loop-j-preserved c = let h = c.loop-j in let i = h.invariant in let a = c.args in (length-set h.l (entry_cells * a.i + h.j) (get_or a.e.now h.j 0) ∙ i.0, i.1, put_more a.l.now h.l a.e.now a.i h.j (omega arith) (omega arith) i.2)

pub shape_of-l : goal.shape_of-l
shape_of-l c = c.loop-j.invariant.0

pub returns : goal.returns
returns c = let i = c.loop-j.invariant in (λ x t. i.2.1 x (omega arith), i.2.2)
