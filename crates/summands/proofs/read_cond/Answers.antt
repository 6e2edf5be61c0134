-- A wanted value below 2, and a term of Bool behind it.
use mathlib.Core.Path.{◌∙◌}
use Prim.Native.Nat.{◌+◌}
use native.Mathlib.Omega.{arith}
use Rattle.pcrl.specs.Decode.{read_cond, read_term}
use Rattle.pcrl.specs.Sorts.{Bool_sort}
use Rattle.pcrl.specs.Tests.{below?}
use Rattle.terms.proofs.Rests.{byte_no, byte_pass}
use Rattle.summands.proofs.read_cond.Goals as goal

pub returns-in_err-number_at : goal.returns-in_err-number_at
unfolding read_cond
returns-in_err-number_at c =
    let b = c.args in
    rw c.from_residual.ensures (λ S k. byte_no (below? 2) b.s.now b.at (λ w. read_term S b.scope.now Bool_sort) (λ h. c.in_err-number_at.ensures (h.0, (omega arith, h.1))))

pub returns : goal.returns
unfolding read_cond
returns c =
    let b = c.args in
    let wanted = c.in_ok-number_at.ensures.1 in
    λ S k. byte_pass (below? 2) b.s.now b.at (λ w. read_term S b.scope.now Bool_sort) (b.at + 1) (omega arith) wanted.0 wanted.1.1 ∙ c.read_term.ensures S k
