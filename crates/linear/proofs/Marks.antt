-- Rows with few marks, one after another.
use mathlib.Core.Path.{◌≡◌, subst}
use mathlib.Core.List.{List}
use Prim.Native.Nat.{ℕ, ◌+◌, ◌*◌, ◌≤◌, ◌<◌}
use native.Mathlib.Decide.{dec_lt}
use native.Mathlib.Omega.{arith}
use lib.ListN.{get_or}
use Rattle.pcrl.specs.Limits.{frame_width}
use Rattle.pcrl.specs.Parts.{count}
use Rattle.nodes.specs.Scoped.{max_scope}
use Rattle.marking.specs.Marks.{bits}
use Rattle.parts.specs.Rows.{row_width}
use Rattle.linear.specs.Within.{FewMarks}

pub few_more : (rows : List ℕ) (k c : ℕ) → c ≡ count (bits max_scope (get_or rows (row_width * k + 2) 0)) → c ≤ frame_width → FewMarks rows k → FewMarks rows (k + 1)
few_more rows k c e h f j l = elim (dec_lt j k) [
  | yes a ↦ f j a
  | no a ↦ let z : k ≡ j = omega arith in subst (λ (i : ℕ). count (bits max_scope (get_or rows (row_width * i + 2) 0)) ≤ frame_width) z (omega arith)
]

pub few_not : (rows : List ℕ) (n k c : ℕ) → k < n → c ≡ count (bits max_scope (get_or rows (row_width * k + 2) 0)) → frame_width < c → FewMarks rows n → ⊥
few_not rows n k c h e l f = let z = f k h in omega arith

pub few_all : (rows : List ℕ) (n k : ℕ) → n ≤ k → FewMarks rows k → FewMarks rows n
few_all rows n k h f j l = f j (omega arith)
