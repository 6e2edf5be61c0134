-- There is room for the longest text.
use native.Mathlib.Omega.{arith}
use Rattle.walker.specs.Short.{written_whole}
use Rattle.walker.proofs.walk_text.Goals as goal

pub returns : goal.returns
returns c = written_whole _ _ _ _ (omega arith) c.walk_sheet-n.ensures
