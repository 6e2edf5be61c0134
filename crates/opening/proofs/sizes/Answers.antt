-- Four sizes.
use native.Mathlib.Omega.{arith}
use Prim.Native.Nat.{ℕ, zero, suc, ◌≤◌, ◌<◌}
use mathlib.Core.List.{[], ◌∷◌}
use lib.ListN.{get_or}
use Rattle.pcrl.specs.Limits.{max_size, max_variables}
use Rattle.opening.proofs.Sizing.{four_sizes}
use Rattle.opening.proofs.sizes.Goals as goal

range : (a b c d : ℕ) → (0 < a) × (a ≤ max_size) → (0 < b) × (b ≤ max_size) → (0 < c) × (c ≤ max_size) → (0 < d) × (d ≤ max_size) → (i : ℕ) → i < max_variables → (0 < get_or (a ∷ b ∷ c ∷ d ∷ []) i 0) × (get_or (a ∷ b ∷ c ∷ d ∷ []) i 0 ≤ max_size)
range a b c d x y z w zero h = x
range a b c d x y z w (suc zero) h = y
range a b c d x y z w (suc (suc zero)) h = z
range a b c d x y z w (suc (suc (suc zero))) h = w
range a b c d x y z w (suc (suc (suc (suc i)))) h = absurd (omega arith)

pub returns : goal.returns
returns c = let a = c.size_at.ensures in let b = c.size_at-2.ensures in let e = c.size_at-3.ensures in let d = c.size_at-4.ensures in (
  range _ _ _ _ (a.0, a.1.0) (b.0, b.1.0) (e.0, e.1.0) (d.0, d.1.0),
  λ S vars known st sorts few. four_sizes S vars _ _ _ _ few (a.1.1 S vars known st sorts few) (b.1.1 S vars known st sorts few) (e.1.1 S vars known st sorts few) (d.1.1 S vars known st sorts few),
)
