-- A size, and a name behind it.
use mathlib.Core.Path.{◌∙◌}
use Prim.Native.Nat.{◌+◌}
use native.Mathlib.Omega.{arith}
use Rattle.terms.proofs.Rests.{on_some}
use Rattle.signature.proofs.Sorts.{sort_no, sort_behind}
use Rattle.signature.proofs.read_sort.Goals as goal

pub returns-in_err-number_at : goal.returns-in_err-number_at
returns-in_err-number_at c = rw c.from_residual.ensures (sort_no c.args.s.now c.args.at (λ h. c.in_err-number_at.ensures (h.0, (h.1.0, omega (arith, h.1.1)))), tt)

pub returns : goal.returns
returns c =
    let size = c.in_ok-number_at.ensures.1 in
    (sort_behind c.args.s.now c.args.at (c.args.at + 1) (omega arith) size.0 (size.1.0, omega (arith, size.1.1)) ∙ c.read_sort_name.ensures.0, on_some c.read_sort_name.result size.0)
