-- What the counting of heads says, for every term whose cells stand at a place.
use Rattle.std.specs.Prelude.{◌≡◌, List, ◌++◌, Bool, true, false, ℕ, suc, ◌+◌, ◌*◌, ◌≤◌, ◌<◌, eqb, length, drop, get_or}
use Rattle.pcrl.specs.Sheet.{Data, Proc, Sheet, right}
use Rattle.pcrl.specs.Parts.{new_count, first_new}
use Rattle.pcrl.specs.Circles.{at_head}
use Rattle.pcrl.specs.Heads.{heads}
use Rattle.nodes.specs.Layout.{enc, atom_kind, call_kind}
use Rattle.nodes.specs.Bits.{bit}
use Rattle.checker.specs.Circles.{SetOf}
use Rattle.counting.specs.declared.Counted.{Counted}
use Rattle.counting.specs.Limits.{row_width, cut}
use Rattle.counting.specs.Count.{count_by}
use Rattle.counting.specs.Heads.{called}

unfoldable pub pick : {A : Type 0} → Bool → A → A → A
pick true x y = x
pick false x y = y

-- what a node counts by itself, from its cells
unfoldable pub leaf_of : List ℕ → ℕ → ℕ → ℕ
leaf_of K kind number = pick (eqb kind atom_kind) 1 (pick (eqb kind call_kind) (get_or K number 0) 0)

-- the heads and the new equations of a term, where K has the heads of the processes
abbrev pub Counts : List ℕ → List ℕ → ℕ → Counted → Type 0
Counts cells K at r = (b : Bool) (p : Proc) (rest : List ℕ) → drop at cells ≡ enc b p ++ rest
    → (r.heads ≡ cut (count_by (λ k. get_or K k 0) p)) × (drop r.next cells ≡ rest) × (r.own ≡ cut (new_count b p))

-- the right sides of a sheet's processes stand in the cells
abbrev pub Placed : Sheet → List ℕ → List ℕ → Type 0
Placed H cells starts = (k : ℕ) → k < length H.procs → (rest : List ℕ) × (drop (get_or starts k 0) cells ≡ enc false (right H k) ++ rest)

-- the rows 0 to f are right
abbrev pub RowsRight : Sheet → ℕ → List ℕ → Type 0
RowsRight H f counts = (g : ℕ) → g ≤ f → (k : ℕ) → k < row_width → get_or counts (row_width * g + k) 0 ≡ cut (called H g k)

-- the rows 0 to f are right, and zeros stand behind them
pub record Tallied (H : Sheet) (f : ℕ) (counts : List ℕ) : Type 0 where
  pub rows : RowsRight H f counts
  pub zeros : (j : ℕ) → row_width * (f + 1) ≤ j → get_or counts j 0 ≡ 0

-- one set is part of another
abbrev pub PartOf : ℕ → ℕ → Type 0
PartOf a b = (i : ℕ) → bit i a ≡ true → bit i b ≡ true

-- the processes of a set have the same counts in the rows f and f + 1
abbrev pub SameIn : List ℕ → ℕ → ℕ → Type 0
SameIn t f same = (j : ℕ) → j < row_width → bit j same ≡ true → get_or t (row_width * (f + 1) + j) 0 ≡ get_or t (row_width * f + j) 0

-- and in row f and the row before it, if there is one
abbrev pub Unchanged : List ℕ → ℕ → ℕ → Type 0
Unchanged t f same = (g : ℕ) → f ≡ g + 1 → SameIn t g same

-- the count of process k in row f + 1, where the rows 0 to f are right, its right side stands at `at` and the set is that of the processes at its head
abbrev pub NextCount : List ℕ → ℕ → List ℕ → ℕ → ℕ → ℕ → ℕ → ℕ → Type 0
NextCount cells at t f k set same r = (H : Sheet) → length H.procs ≤ row_width
    → ((rest : List ℕ) × (drop at cells ≡ enc false (right H k) ++ rest))
    → SetOf set (at_head (right H k))
    → Unchanged t f same
    → RowsRight H f t
    → r ≡ cut (called H (suc f) k)

-- what the counts mean: how many heads the right side of process k has, where f calls may be followed from it
abbrev pub HeadsCounted : Sheet → ℕ → List ℕ → Type 0
HeadsCounted H f K = (σ : List Data) (m c : ℕ) (k : ℕ) → get_or K k 0 ≡ cut (length (heads H f σ m c (right H k)))

-- the numbers of the first new equations of the processes, where all are below a byte's limit
abbrev pub FirstNew : Sheet → List ℕ → Type 0
FirstNew H firsts = (k : ℕ) → k < length H.procs → get_or firsts k 0 ≡ first_new (length H.procs) H.procs k
