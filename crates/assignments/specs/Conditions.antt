-- The conditions of a summand by their places in the stream, and what is asked of them.
use Rattle.std.specs.Prelude.{◌≡◌, List, ◌++◌, Bool, true, false, ℕ, zero, suc, ◌+◌, ◌-◌, ◌<◌, ◌≤◌, eqb, ltb, length, get_or, take, drop, Result, Ok, Err}
use Rattle.std.proofs.Math.Option.{some}
use Rattle.std.proofs.Math.ListN.{get_elem?}
use Rattle.pcrl.specs.Tests.{and}
use Rattle.laws.specs.TermLength.{max_term}
use Rattle.evaluation.specs.Run.{pick, top, run, peak, foot}
use Rattle.assignments.specs.Places.{product}

-- the parameters' values, and behind them those of the sum variables
abbrev pub env : ℕ → List ℕ → List ℕ → List ℕ
env p params w = take p params ++ w

-- a condition is a wanted value, and its term behind it up to `end`
abbrev pub code : List ℕ → ℕ → ℕ → List ℕ
code s from end = take (end - (from + 1)) (drop (from + 1) s)

abbrev pub holds : List ℕ → List ℕ → List ℕ → ℕ → ℕ → Bool
holds s funcs e from end = eqb (top (run s funcs e (code s from end))) (get_or s from 0)

-- each number below n passes
unfoldable pub all_below : ℕ → (ℕ → Bool) → Bool
all_below zero t = true
all_below (suc n) t = and (t n) (all_below n t)

-- all n conditions hold
abbrev pub met : List ℕ → List ℕ → List ℕ → List ℕ → ℕ → List ℕ → Bool
met s funcs froms ends n e = all_below n (λ i. holds s funcs e (get_or froms i 0) (get_or ends i 0))

-- Condition i stands in the stream; if it fails, it fails on a block of assignments: those that differ only in variables after its last.
-- `reach`: no condition names a variable from it on; `low`: none names a sum variable before it.
pub record Ready (s : List ℕ) (p : ℕ) (sizes froms ends blocks : List ℕ) (reach low i : ℕ) : Type 0 where
  pub some_term : get_or froms i 0 + 1 ≤ get_or ends i 0
  pub short : get_or ends i 0 ≤ get_or froms i 0 + 1 + max_term
  pub inside : get_or ends i 0 ≤ length s
  pub block_is : get_or blocks i 0 ≡ product (drop (peak (code s (get_or froms i 0) (get_or ends i 0)) - p) sizes)
  pub below : peak (code s (get_or froms i 0) (get_or ends i 0)) ≤ reach
  pub above : low ≤ foot p (code s (get_or froms i 0) (get_or ends i 0))

-- the larger of `out` and the block, if the condition fails
abbrev pub tried_of : Bool → ℕ → ℕ → ℕ
tried_of h block out = pick (ltb out block) (pick h out block) out

-- what a test of n conditions answers, of those with a block larger than `least`: `least` if all pass, or the block of one that does not
pub record Tested (t : ℕ → Bool) (blocks : List ℕ) (least n r : ℕ) : Type 0 where
  pub no_less : least ≤ r
  pub all_pass : r ≡ least → (i : ℕ) → i < n → least < get_or blocks i 0 → t i ≡ true
  pub one_fails : least < r → (i : ℕ) × (i < n) × (t i ≡ false) × (r ≡ get_or blocks i 0)

-- the k-th of a list, or how much of k is left behind it
unfoldable pub Finds : List ℕ → ℕ → Result ℕ ℕ → Type 0
Finds l k (Ok at) = get_elem? l k ≡ some at
Finds l k (Err left) = k ≡ left + length l
