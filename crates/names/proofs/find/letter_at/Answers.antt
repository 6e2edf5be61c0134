-- A byte by its place, as it is compared; 0 past the end.
use mathlib.Core.Path.{sym}
use Rattle.names.proofs.Runs.{shown_past}
use Rattle.names.proofs.find.letter_at.Goals as goal

pub returns-else-i-s : goal.returns-else-i-s
returns-else-i-s c = sym (shown_past c.args.s.now c.args.i c.if-i-s.false)
