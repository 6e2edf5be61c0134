-- What was taken out lies before the rest, on both sides.
use mathlib.Core.Path.{ap}
use mathlib.Core.List.{List, ◌++◌}
use lib.ListN.{drop}
use Rattle.frames.specs.declared.LentFrame.{LentFrame}
use Rattle.frames.specs.Lists.{over}
use Rattle.frames.proofs.exchange.Goals as goal

pub returns : goal.returns
unfolding over
returns c =
    let swapped = c.swap_with_slice.ensures in (
      ap (λ (l : List LentFrame). l ++ drop c.args.n c.args.s.frames) swapped.other_after,
      ap (λ (l : List LentFrame). l ++ drop c.args.n c.args.fs.now) swapped.after,
    )
