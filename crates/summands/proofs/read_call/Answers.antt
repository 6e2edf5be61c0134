-- The equation's parameters stand at its place: a term is read for each.
use mathlib.Core.Path.{◌∙◌, ap}
use Prim.Native.Nat.{◌+◌, ℕ}
use native.Mathlib.Omega.{arith}
use lib.ListN.{get_or}
use Rattle.summands.proofs.Summand.{call_bad, call_pass}
use Rattle.summands.proofs.read_call.Goals as goal

pub returns-in_err-e : goal.returns-in_err-e
returns-in_err-e c =
    let b = c.args in
    rw c.from_residual.ensures (λ S Ps k q. call_bad S Ps b.scope.now b.s.now b.params.now q b.at (λ h. c.in_err-e.ensures (h.0, (omega arith, h.1))))

pub returns : goal.returns
returns c =
    let b = c.args in
    let e = c.in_ok-e.ensures.1 in
    λ S Ps k q. call_pass S Ps b.scope.now b.s.now b.params.now q b.at e.0 (b.at + 1) c.cell.result c.list_at-sorts.result.now (omega arith) e.1.1 (c.cell.ensures.0 ∙ ap (λ (i : ℕ). get_or b.params.now i 0) c.in_ok-e.ensures.0) c.list_at-sorts.ensures ∙ c.read_terms.ensures S k
