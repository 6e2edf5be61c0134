-- Both sizes are bytes.
use mathlib.Core.Path.{◌∙◌, ap}
use Prim.Native.Nat.{ℕ}
use lib.ListN.{get_or}
use Rattle.initial.specs.Symbols.{second_size}
use Rattle.initial.proofs.second.Goals as goal

pub returns : goal.returns
unfolding second_size
returns c = (c.cell-2.ensures.0 ∙ ap (λ (x : ℕ). get_or c.args.sizes.now x 0) c.cell.ensures.0, c.cell-2.ensures.1)
