-- What the index makes known is what `ask` wants.
use Rattle.firing.proofs.Indexing.{known_table}
use Rattle.walker.proofs.ask_first.Goals as goal

pub returns : goal.returns
returns c = (c.ask.ensures.0, λ T r x p. c.ask.ensures.1 T (known_table T _ _ x r) p)
