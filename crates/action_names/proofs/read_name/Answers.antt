-- The run is read, and it is the list at its place: that is tested.
use mathlib.Core.Path.{◌∙◌, ap, sym}
use Rattle.pcrl.specs.Right.{free_name}
use Rattle.action_names.proofs.Run.{name_bad, name_fail, name_pass}
use Rattle.action_names.proofs.read_name.Goals as goal

pub returns-in_err-end : goal.returns-in_err-end
returns-in_err-end c = rw c.from_residual.ensures (name_fail c.args.s.now c.args.at c.in_err-end.ensures.0, tt)

pub returns-then-not-free_name : goal.returns-then-not-free_name
returns-then-not-free_name c = (name_bad c.args.s.now c.args.at _ c.in_ok-end.ensures.0 (ap free_name (sym c.list_at.ensures) ∙ sym c.free_name.ensures ∙ c.if-not-free_name.true), tt)

pub returns : goal.returns
returns c = (name_pass c.args.s.now c.args.at _ c.in_ok-end.ensures.0 (ap free_name (sym c.list_at.ensures) ∙ sym c.free_name.ensures ∙ c.if-not-free_name.false), c.in_ok-end.ensures.1)
