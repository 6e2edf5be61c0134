-- A name, and its sorts behind it.
use mathlib.Core.Path.{◌∙◌}
use lib.ListN.{drop}
use Rattle.signature.proofs.Funcs.{action_fail, action_sorts}
use Rattle.terms.proofs.Rests.{on_some}
use Rattle.signature.proofs.read_action.Goals as goal

pub returns-in_err-sorts : goal.returns-in_err-sorts
returns-in_err-sorts c =
    rw c.from_residual.ensures (action_fail c.args.sizes.now c.args.s.now c.args.at (c.in_err-sorts.ensures.0), tt)

pub returns : goal.returns
returns c = (action_sorts c.args.sizes.now c.args.s.now c.args.at (drop c.in_ok-sorts.sorts c.args.s.now) (c.in_ok-sorts.ensures.0) ∙ c.read_list.ensures.0, on_some c.read_list.result c.in_ok-sorts.ensures.1)
