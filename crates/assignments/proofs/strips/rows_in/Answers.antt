-- No more than there are lanes for, and than there are values.
use native.Mathlib.Omega.{arith}
use Prim.Native.Nat.{ℕ, ◌/◌}
use mathlib.Core.Path.{◌≡◌, ap}
use Rattle.assignments.proofs.InRows.{few_rows}
use Rattle.assignments.proofs.strips.rows_in.Goals as goal

pub returns : goal.returns
returns c = let a = c.args in let e : 128 / c.wide.result ≡ 128 / a.size = ap (λ (x : ℕ). 128 / x) c.wide.ensures.0 in (few_rows 128 c.min.result a.size (omega (arith, e, c.min.ensures)) (omega arith), λ h. omega (arith, c.min.ensures, c.wide-2.ensures.0))
