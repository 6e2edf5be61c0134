-- The names that stand in cells are those of the sorts, and those that stand in the stream those of the actions.
use Rattle.printer.proofs.Whole.{free_there}
use Rattle.printer.proofs.sorts_free.Goals as goal

pub returns : goal.returns
returns c = λ U right k x. let a = c.args in free_there U right a.s.now a.index k a.l.now x c.none_there.result c.none_there.ensures
