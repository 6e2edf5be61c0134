-- The element is a byte.
use mathlib.Core.Path.{◌∙◌, ap}
use Prim.Native.Nat.{ℕ, ◌+◌}
use lib.ListN.{get_or}
use Rattle.initial.specs.Symbols.{looked_at}
use Rattle.initial.proofs.looked.Goals as goal

pub returns : goal.returns
unfolding looked_at
returns c = (c.cell-2.ensures.0 ∙ ap (λ (k : ℕ). get_or c.args.values.now (k + c.args.x) 0) c.cell.ensures.0, c.cell-2.ensures.1)
