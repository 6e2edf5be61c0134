-- A list of one question, of which the answer is told alone.
use Rattle.stepping.proofs.ask.Goals as goal

pub returns : goal.returns
returns c = c.told.ensures _ _ _ _ _ c.ask_all-answer.ensures
