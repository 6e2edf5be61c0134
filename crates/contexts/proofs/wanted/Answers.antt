-- `contexts::wanted` meets its contract.
use mathlib.Core.Path.{sym, ap}
use Rattle.contexts.specs.Spots.{wanted_of}
use Rattle.contexts.proofs.wanted.Goals as goal

pub returns-then-second : goal.returns-then-second
unfolding wanted_of
returns-then-second c = ap wanted_of (sym c.if-second.true)

pub returns-else-second : goal.returns-else-second
unfolding wanted_of
returns-else-second c = ap wanted_of (sym c.if-second.false)
