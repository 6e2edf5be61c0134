-- Each cell has the name of its sort.
use Rattle.lettering.proofs.Given.{given_in}
use Rattle.lettering.proofs.names_of.Goals as goal

pub returns : goal.returns
returns c = λ T right ix. given_in T c.args.s.now c.args.index right ix c.sort_letters-n.result _ c.sort_letters-n.ensures.1 c.put_names.ensures.cells_in
