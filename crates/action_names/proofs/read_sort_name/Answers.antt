-- The run is read, and it is the list at its place: that is tested.
use mathlib.Core.Path.{◌∙◌, ap, sym}
use Rattle.pcrl.specs.Right.{token_name}
use Rattle.action_names.proofs.Run.{sort_name_bad, sort_name_fail, sort_name_pass}
use Rattle.action_names.proofs.read_sort_name.Goals as goal

pub returns-in_err-end : goal.returns-in_err-end
returns-in_err-end c = rw c.from_residual.ensures (sort_name_fail c.args.s.now c.args.at c.in_err-end.ensures.0, tt)

pub returns-then-not-token_name : goal.returns-then-not-token_name
returns-then-not-token_name c = (sort_name_bad c.args.s.now c.args.at _ c.in_ok-end.ensures.0 (ap token_name (sym c.list_at.ensures) ∙ sym c.token_name.ensures ∙ c.if-not-token_name.true), tt)

pub returns : goal.returns
returns c = (sort_name_pass c.args.s.now c.args.at _ c.in_ok-end.ensures.0 (ap token_name (sym c.list_at.ensures) ∙ sym c.token_name.ensures ∙ c.if-not-token_name.false), c.in_ok-end.ensures.1)
