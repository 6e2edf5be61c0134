-- Two stores.
use mathlib.Core.Path.{ap}
use Prim.Native.Nat.{ℕ}
use lib.ListN.{set}
use Rattle.parts.proofs.right_side.enter.Goals as goal

pub returns : goal.returns
returns c =
    let a = c.args in
    record { left_is = λ h. ap (λ (x : ℕ). set a.left.now a.n x) (c.short.ensures h); sorts_is = ap (λ (x : ℕ). set a.sorts.now a.n x) c.low.ensures }
