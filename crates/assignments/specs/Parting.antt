-- Some of a summand's conditions: those that have a block; and the conditions parted in two.
use Rattle.std.specs.Prelude.{◌≡◌, List, Bool, true, ℕ, ◌+◌, ◌-◌, ◌<◌, ◌≤◌, ltb, length, get_or, drop}
use Rattle.laws.specs.TermLength.{max_term}
use Rattle.evaluation.specs.Run.{pick, peak, foot}
use Rattle.assignments.specs.Places.{product}
use Rattle.assignments.specs.Conditions.{code, holds, all_below}
use Rattle.assignments.specs.declared.Parts.{Parts}

-- condition i stands in the stream
pub record Standing (s froms ends : List ℕ) (i : ℕ) : Type 0 where
  pub some_term : get_or froms i 0 + 1 ≤ get_or ends i 0
  pub short : get_or ends i 0 ≤ get_or froms i 0 + 1 + max_term
  pub inside : get_or ends i 0 ≤ length s

-- what condition i says where it has a block
abbrev pub asked : List ℕ → List ℕ → List ℕ → List ℕ → List ℕ → List ℕ → ℕ → Bool
asked s funcs froms ends blocks e i = pick (ltb 0 (get_or blocks i 0)) (holds s funcs e (get_or froms i 0) (get_or ends i 0)) true

-- all of the n conditions hold that have a block
abbrev pub part_met : List ℕ → List ℕ → List ℕ → List ℕ → List ℕ → ℕ → List ℕ → Bool
part_met s funcs froms ends blocks n e = all_below n (asked s funcs froms ends blocks e)

-- condition i of a part that changes only between blocks of g
pub record Part (s : List ℕ) (p : ℕ) (sizes froms ends blocks : List ℕ) (g i : ℕ) : Type 0 where
  pub standing : Standing s froms ends i
  pub block_is : 0 < get_or blocks i 0 → get_or blocks i 0 ≡ product (drop (peak (code s (get_or froms i 0) (get_or ends i 0)) - p) sizes)
  pub coarse : 0 < get_or blocks i 0 → g ≤ get_or blocks i 0

-- no condition of the part names a sum variable before `low`
abbrev pub Above : List ℕ → ℕ → List ℕ → List ℕ → List ℕ → ℕ → ℕ → Type 0
Above s p froms ends blocks n low = (i : ℕ) → i < n → 0 < get_or blocks i 0 → low ≤ foot p (code s (get_or froms i 0) (get_or ends i 0))

-- Each of the n conditions is in one part: early, with a block of b assignments or more, or late; the late ones say the same again after b or less.
pub record Apart (s : List ℕ) (p : ℕ) (sizes froms ends blocks : List ℕ) (n : ℕ) (r : Parts) : Type 0 where
  pub bound : ℕ
  pub level : ℕ
  pub grain_is : r.grain ≡ product (drop level sizes)
  pub repeats : product (drop (r.low - p) sizes) ≤ bound
  pub early : (i : ℕ) → i < n → bound ≤ get_or blocks i 0 → (get_or r.early i 0 ≡ get_or blocks i 0) × ((get_or r.late i 0 ≡ 0) × (r.grain ≤ get_or blocks i 0))
  pub late : (i : ℕ) → i < n → get_or blocks i 0 < bound → (get_or r.late i 0 ≡ get_or blocks i 0) × ((get_or r.early i 0 ≡ 0) × (r.low ≤ foot p (code s (get_or froms i 0) (get_or ends i 0))))

-- No condition of the part names one of the sum variables from `level` on that stand before `low`: `before` and `behind` are the blocks of
-- those behind the first ones, and behind the gap.
pub record Gapped (s : List ℕ) (p : ℕ) (sizes froms ends blocks : List ℕ) (n round before behind : ℕ) : Type 0 where
  pub level : ℕ
  pub low : ℕ
  pub before_is : before ≡ product (drop level sizes)
  pub behind_is : behind ≡ product (drop (low - p) sizes)
  pub within : before ≤ round
  pub smaller : behind ≤ before
  pub unnamed : Above s (p + level) froms ends blocks n low
