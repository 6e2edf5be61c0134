-- The size stands behind the places of the functions.
use mathlib.Core.Path.{ap, ◌∙◌}
use Rattle.terms.specs.Stands.{size_in}
use Rattle.declarations.proofs.size_at.Goals as goal

pub returns : goal.returns
returns c = c.size_of.ensures ∙ ap (size_in c.args.funcs.now) c.peek.ensures
