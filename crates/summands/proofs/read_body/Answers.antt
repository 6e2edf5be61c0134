-- Conditions, then the label, then the calls.
use mathlib.Core.Path.{◌∙◌}
use lib.ListN.{drop}
use Rattle.summands.proofs.Summand.{body_calls, body_no_conds, body_no_label}
use Rattle.summands.proofs.read_body.Goals as goal

pub returns-in_err-label : goal.returns-in_err-label
returns-in_err-label c = let b = c.args in
    rw c.from_residual.ensures (λ S Ps k a q. body_no_conds S Ps b.scope.now (drop b.at b.s.now) (c.in_err-label.ensures S k))

pub returns-in_err-calls : goal.returns-in_err-calls
returns-in_err-calls c = let b = c.args in
    rw c.from_residual-in_err-calls.ensures (λ S Ps k a q. body_no_label S Ps b.scope.now (drop b.at b.s.now) _ (c.in_ok-label.ensures S k) (c.in_err-calls.ensures S k a))

pub returns : goal.returns
returns c = let b = c.args in
    λ S Ps k a q. body_calls S Ps b.scope.now (drop b.at b.s.now) _ (c.in_ok-label.ensures S k) _ (c.in_ok-calls.ensures S k a) ∙ c.read_calls.ensures S Ps k q
