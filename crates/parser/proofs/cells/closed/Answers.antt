-- `cells::closed` meets its contract.
use Rattle.parser.proofs.Reaching.{closed_some, closed_none}
use Rattle.parser.proofs.cells.closed.Goals as goal

pub returns-in_err-at-clause-read : goal.returns-in_err-at-clause-read
returns-in_err-at-clause-read c = rw c.from_residual.ensures (closed_none c.in_err-at.ensures.read)

pub returns-clause-read : goal.returns-clause-read
returns-clause-read c = closed_some c.in_ok-at.ensures.read
