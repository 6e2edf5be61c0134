-- The part of the stream from there on, as far as there is one.
use Rattle.declarations.proofs.Functions.{slice_is}
use Rattle.declarations.proofs.bytes_at.Goals as goal

pub returns : goal.returns
returns c = λ e h k. let a = c.args in slice_is a.s.now a.from c.min-v.result c.min-w.result a.n e h k c.min-v.ensures c.min-w.ensures
