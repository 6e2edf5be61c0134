-- The start equation's parameters stand at its place: a value is read for each.
use mathlib.Core.Path.{◌∙◌, ap}
use Prim.Native.Nat.{◌+◌, ℕ}
use native.Mathlib.Omega.{arith}
use lib.ListN.{get_or}
use Rattle.equations.proofs.Start.{start_no, start_pass}
use Rattle.equations.proofs.read_start.Goals as goal

pub returns-in_err-e : goal.returns-in_err-e
returns-in_err-e c =
    let a = c.args in
    rw c.from_residual.ensures (λ S es z q. start_no S es a.s.now a.sizes.now a.params.now z q a.at (λ h. c.in_err-e.ensures (h.0, (omega arith, h.1))), tt)

pub returns : goal.returns
returns c =
    let a = c.args in
    let e = c.in_ok-e.ensures in
    (λ S es z q. start_pass S es a.s.now a.sizes.now a.params.now z q a.at (a.at + 1) c.cell.result c.list_at-sorts.result.now (omega arith) e.1.0 e.1.1.1 (c.cell.ensures.0 ∙ ap (λ (i : ℕ). get_or a.params.now i 0) e.0) c.list_at-sorts.ensures ∙ c.read_data.ensures.0, c.read_data.ensures.1 (omega (arith, e.1.0)))
