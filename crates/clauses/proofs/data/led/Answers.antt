-- The first term and the later ones.
use Rattle.clauses.proofs.TermLists.{lead_first, lead_later}
use Rattle.clauses.proofs.data.led.Goals as goal

pub returns-then-i-eq0 : goal.returns-then-i-eq0
returns-then-i-eq0 c = lead_first c.args.i c.if-i-eq0.true

pub returns : goal.returns
returns c = lead_later c.args.i c.if-i-eq0.false
