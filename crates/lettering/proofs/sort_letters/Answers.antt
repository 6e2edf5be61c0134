-- One time more than the longest run.
use native.Mathlib.Omega.{arith}
use Rattle.lettering.proofs.Cells.{not_both}
use Rattle.lettering.proofs.sort_letters.Goals as goal

pub returns-then-named : goal.returns-then-named
returns-then-named c = (omega arith, λ e. absurd (not_both c.args.named c.if-named.true e))

pub returns : goal.returns
returns c = let z = c.longest_run.ensures.1 in (omega (arith, c.min.ensures), λ e. omega (arith, c.min.ensures))
