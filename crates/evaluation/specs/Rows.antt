-- Rows of up to 128 values, one behind another in a list: lane i of a row is its value for one pair of values of two variables.
use Rattle.std.specs.Prelude.{◌≡◌, List, Bool, false, ℕ, ◌+◌, ◌*◌, ◌<◌, ◌≤◌, eqb, get_or, set}
use Rattle.evaluation.specs.Run.{pick}

-- the most lanes of a row
abbrev pub lane_count : ℕ
lane_count = 128

-- as many rows as a term of 31 nodes needs; behind them stand three rows of zeros
abbrev pub row_count : ℕ
row_count = 17

-- a mark for each, and all rows
abbrev pub mark_room : ℕ
mark_room = row_count + 3

abbrev pub row_room : ℕ
row_room = mark_room * lane_count

abbrev pub lane : List ℕ → ℕ → ℕ → ℕ
lane rows t i = get_or rows (t * lane_count + i) 0

-- what the variables are worth in lane i: u is what `slow` has there, and v what `fast` has
abbrev pub lane_env : List ℕ → ℕ → ℕ → List ℕ → List ℕ → ℕ → List ℕ
lane_env e u v slow fast i = set (set e u (get_or slow i 0)) v (get_or fast i 0)

-- the lanes from a to b of row d are f; the rest is as it was
pub record Putting (rows : List ℕ) (d : ℕ) (f : ℕ → ℕ) (a b : ℕ) (rows' : List ℕ) : Type 0 where
  pub so_far : (i : ℕ) → a ≤ i → i < b → lane rows' d i ≡ f i
  pub rest : (x : ℕ) → (d * lane_count + a ≤ x → x < d * lane_count + b → ⊥) → get_or rows' x 0 ≡ get_or rows x 0

-- row d is f, lane by lane for n lanes; the other rows are as they were
pub record RowPut (n : ℕ) (rows : List ℕ) (d : ℕ) (f : ℕ → ℕ) (rows' : List ℕ) : Type 0 where
  pub lanes : (i : ℕ) → i < n → lane rows' d i ≡ f i
  pub others : (x : ℕ) → (d * lane_count ≤ x → x < d * lane_count + lane_count → ⊥) → get_or rows' x 0 ≡ get_or rows x 0

-- a row whose mark is 0 has the same value in every lane
abbrev pub Marked : List ℕ → List ℕ → Type 0
Marked rows marks = (r : ℕ) → r < mark_room → get_or marks r 0 ≡ 0 → (i : ℕ) → i < lane_count → lane rows r i ≡ lane rows r 0

-- zeros stand behind the rows
abbrev pub Zeros : List ℕ → Type 0
Zeros rows = (x : ℕ) → row_count * lane_count ≤ x → get_or rows x 0 ≡ 0

-- of the lanes that are kept, those in which f is what is wanted; `some` is false only if none is left
pub record LanesKept (n : ℕ) (f : ℕ → ℕ) (wanted : ℕ) (met met' : List ℕ) (some : Bool) : Type 0 where
  pub kept_lanes : (i : ℕ) → i < n → get_or met' i 0 ≡ pick (eqb (f i) wanted) (get_or met i 0) 0
  pub none_left : some ≡ false → (i : ℕ) → i < n → get_or met' i 0 ≡ 0
