-- The blocks behind a level are of g.
use native.Mathlib.Omega.{arith}
use Prim.Native.Nat.{ℕ}
use mathlib.Core.Path.{◌≡◌, sym, ◌∙◌}
use Rattle.assignments.proofs.in_rows.varies.Goals as goal

pub returns-then-block_size-g : goal.returns-then-block_size-g
returns-then-block_size-g c = λ h. sym c.if-block_size-g.true ∙ c.block_size.ensures.0

pub returns : goal.returns
returns c = λ h. absurd (let z : ◌≡◌ {A = ℕ} 0 1 = cc in omega arith)
