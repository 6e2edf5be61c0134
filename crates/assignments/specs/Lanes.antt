-- A strip of blocks: lane i is the block for one pair of values of two variables.
use Rattle.std.specs.Prelude.{◌≡◌, List, Bool, true, false, ℕ, ◌+◌, ◌-◌, ◌*◌, ◌≤◌, ◌<◌, ltb, length, get_or, drop, Result, Ok, Err}
use Rattle.std.proofs.Math.Option.{some}
use Rattle.std.proofs.Math.ListN.{get_elem?}
use Rattle.pcrl.specs.Limits.{max_variables}
use Rattle.evaluation.specs.Run.{pick}
use Rattle.evaluation.specs.Rows.{lane_count, row_room, mark_room}
use Rattle.assignments.specs.Places.{product, places}
use Rattle.assignments.specs.Conditions.{all_below}
use Rattle.assignments.specs.Parting.{asked}
use Rattle.assignments.specs.declared.Reached.{Reached}

-- what condition i says if its block is less than w
abbrev pub inner : List ℕ → List ℕ → List ℕ → List ℕ → List ℕ → ℕ → List ℕ → ℕ → Bool
inner s funcs froms ends blocks w e i = pick (ltb (get_or blocks i 0) w) (asked s funcs froms ends blocks e i) true

-- of the lanes that are kept, those that pass; `left` is false only if there are none
pub record Sifted (lanes : ℕ) (t : ℕ → Bool) (met met' : List ℕ) (left : Bool) : Type 0 where
  pub sifted : (i : ℕ) → i < lanes → get_or met' i 0 ≡ pick (t i) (get_or met i 0) 0
  pub none : left ≡ false → (i : ℕ) → i < lanes → get_or met' i 0 ≡ 0

-- the lanes in which n conditions hold: 1, and 0 for the others
pub record RowMet (lanes : ℕ) (t : ℕ → ℕ → Bool) (n : ℕ) (met : List ℕ) (left : Bool) : Type 0 where
  pub each : (i : ℕ) → i < lanes → get_or met i 0 ≡ pick (all_below n (t i)) 1 0
  pub none : left ≡ false → (i : ℕ) → i < lanes → get_or met i 0 ≡ 0

-- n lanes, in rows of so many: what each has for the slow and for the fast variable; all are kept
pub record Strip (size first n : ℕ) (slow fast met : List ℕ) : Type 0 where
  pub slow_least : (i : ℕ) → i < n → first ≤ get_or slow i 0
  pub fast_below : (i : ℕ) → i < n → get_or fast i 0 < size
  pub lane_is : (i : ℕ) → i < n → i ≡ (get_or slow i 0 - first) * size + get_or fast i 0
  pub all_kept : (i : ℕ) → i < n → get_or met i 0 ≡ 1

-- room for rows and lanes
pub record Lent (rows marks slow fast met : List ℕ) : Type 0 where
  pub rows_long : row_room ≤ length rows
  pub marks_long : mark_room ≤ length marks
  pub slow_long : lane_count ≤ length slow
  pub fast_long : lane_count ≤ length fast
  pub met_long : lane_count ≤ length met

-- rows of w assignments, of blocks of g for the values at level l; there is one for each value at level u
pub record Rowed (sizes : List ℕ) (l u g w : ℕ) : Type 0 where
  pub u_first : u < l
  pub l_inside : l < max_variables
  pub grain_is : g ≡ product (drop (l + 1) sizes)
  pub row_is : w ≡ product (drop l sizes)
  pub again_is : w ≡ product (drop (u + 1) sizes)

-- a search for the k-th of the numbers from `from` on that pass: what it found, or how far it came and how much of k is left there
unfoldable pub Came : (ℕ → Bool) → ℕ → ℕ → ℕ → Result ℕ Reached → Type 0
Came acc total from k (Ok at) = get_elem? (places acc (total - from) from) k ≡ some at
Came acc total from k (Err r) = (get_elem? (places acc (total - from) from) k ≡ get_elem? (places acc (total - r.at) r.at) r.left) × (k + length (places acc (total - r.at) r.at) ≡ r.left + length (places acc (total - from) from))
