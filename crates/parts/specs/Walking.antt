-- A walk over a right side, node by node. Sums open a level: what is left of the levels below stands in an array.
use Rattle.std.specs.Prelude.{◌≡◌, List, Option, [], ◌∷◌, ◌++◌, true, false, ℕ, ◌+◌, ◌-◌, ◌*◌, ◌%◌, ◌≤◌, ◌<◌, length, take, drop, get_or, set}
use Rattle.pcrl.specs.Tests.{Every}
use Rattle.pcrl.specs.Reader.{all}
use Rattle.pcrl.specs.Sheet.{Proc, Sheet}
use Rattle.pcrl.specs.Sorts.{Scope, Sorted}
use Rattle.pcrl.specs.Parts.{NewPart, new_parts}
use Rattle.nodes.specs.Layout.{cell_limit, byte_limit, Item, enc, encs}
use Rattle.nodes.specs.Scoped.{Scoped}
use Rattle.parts.specs.declared.PartWalk.{PartWalk}
use Rattle.parts.specs.declared.Noted.{Noted}
use Rattle.parts.specs.Behind.{PutsFrom}
use Rattle.parts.specs.Rows.{row_width, params_bytes, RowOf, RowsKept, RowsOf}

-- a term of a sheet that is rightly sorted, where n variables are in scope
pub record Fit (H : Sheet) (m n : ℕ) (p : Proc) : Type 0 where
  pub scoped : Scoped m n p
  pub scope : Scope
  pub sorted : Sorted H scope p

-- the parts of some terms that get new equations, where the first n of these sorts are in scope
unfoldable pub parts_of : List ℕ → ℕ → List Item → List NewPart
parts_of sorts n xs = all (λ (x : Item). new_parts x.0 (take n sorts) x.1) xs

-- terms that are left below a level: how many, as the array says; that they fit; and their parts
unfoldable pub Below : List ℕ → ℕ → ℕ → List (List Item) → Type 0
Below left base n [] = n ≡ base
Below left base n (ys ∷ fs) = (1 ≤ n) × ((get_or left (n - 1) 0 ≡ length ys) × Below left base (n - 1) fs)

unfoldable pub FitBelow : Sheet → ℕ → ℕ → List (List Item) → Type 0
FitBelow H m n [] = Unit {0}
FitBelow H m n (ys ∷ fs) = Every (λ (x : Item). Fit H m (n - 1) x.1) ys × FitBelow H m (n - 1) fs

unfoldable pub parts_below : List ℕ → ℕ → List (List Item) → List NewPart
parts_below sorts n [] = []
parts_below sorts n (ys ∷ fs) = parts_of sorts (n - 1) ys ++ parts_below sorts (n - 1) fs

-- where the walk is: what is left, and the parts that are to come
pub record Ahead (cells left sorts : List ℕ) (H : Sheet) (m base : ℕ) (rest : List ℕ) (s : PartWalk) (parts : List NewPart) : Type 0 where
  pub here : List Item
  pub below : List (List Item)
  pub many : s.need ≡ length here
  pub counts : Below left base s.level below
  pub stand : drop s.at cells ≡ encs here ++ (all encs below ++ rest)
  pub fit : Every (λ (x : Item). Fit H m s.level x.1) here
  pub fit_below : FitBelow H m s.level below
  pub come : parts ≡ parts_of sorts s.level here ++ parts_below sorts s.level below

-- so few sorts and cells that their numbers fit
pub record Few (H : Sheet) (cells : List ℕ) : Type 0 where
  pub sorts_few : length H.sig.sorts ≤ byte_limit
  pub cells_few : length cells < cell_limit

-- a step of the walk: the parts that it passed have their rows and their bytes
pub record Onward (cells left sorts rows o : List ℕ) (s : PartWalk) (H : Sheet) (m base : ℕ) (rest : List ℕ) (parts : List NewPart) (left' sorts' rows' o' : List ℕ) (s' : PartWalk) : Type 0 where
  pub own : List NewPart
  pub come : List NewPart
  pub whole : parts ≡ own ++ come
  pub ahead : Ahead cells left' sorts' H m base rest s' come
  pub count_is : s'.count ≡ s.count + length own
  pub rows_of : row_width * (s.count + length own) ≤ length rows → RowsOf cells rows' s.count own
  pub puts : PutsFrom (all params_bytes own) s.w o s'.w o'

abbrev pub Steps : (cells left sorts rows o : List ℕ) → PartWalk → (left' sorts' rows' o' : List ℕ) → PartWalk → Type 0
Steps cells left sorts rows o s left' sorts' rows' o' s' =
    (H : Sheet) (m base : ℕ) (rest : List ℕ) (parts : List NewPart) → Few H cells → Ahead cells left sorts H m base rest s parts → Onward cells left sorts rows o s H m base rest parts left' sorts' rows' o' s'

-- up to a level where something is left
abbrev pub Rises : (left : List ℕ) → ℕ → PartWalk → PartWalk → Type 0
Rises left base s s' =
    (cells sorts : List ℕ) (H : Sheet) (m : ℕ) (rest : List ℕ) (parts : List NewPart) → Ahead cells left sorts H m base rest s parts → Ahead cells left sorts H m base rest s' parts

-- the parts of the right side at `at`: their rows from k on, and the bytes of their parameters behind w
pub record PartsPut (cells rows : List ℕ) (k : ℕ) (w : Option ℕ) (o : List ℕ) (parts : List NewPart) (k' : ℕ) (w' : Option ℕ) (rows' o' : List ℕ) : Type 0 where
  pub count_is : k' ≡ k + length parts
  pub rows_of : row_width * (k + length parts) ≤ length rows → RowsOf cells rows' k parts
  pub puts : PutsFrom (all params_bytes parts) w o w' o'

abbrev pub PutsParts : (cells sorts rows : List ℕ) → (at base k : ℕ) → Option ℕ → (o : List ℕ) → PartWalk → (rows' o' : List ℕ) → Type 0
PutsParts cells sorts rows at base k w o s rows' o' =
    (H : Sheet) (m : ℕ) (p : Proc) (rest : List ℕ) → Few H cells → drop at cells ≡ enc false p ++ rest → Fit H m base p
    → PartsPut cells rows k w o (new_parts false (take base sorts) p) s.count s.w rows' o'

-- ---- the parts of a step
-- the part that a term is, where the first n of these sorts are in scope
abbrev pub part_at : List ℕ → ℕ → Proc → NewPart
part_at sorts n p = record { scope = take n sorts; term = p }

-- a part's row and the bytes of its parameters, for every term that stands at a place after a first part
abbrev pub Notes : (cells sorts rows o : List ℕ) → (at n k : ℕ) → Option ℕ → (rows' o' : List ℕ) → Option ℕ → Type 0
Notes cells sorts rows o at n k w rows' o' w' =
    (m : ℕ) (p : Proc) (rest : List ℕ) → drop at cells ≡ enc true p ++ rest → Scoped m n p → at < cell_limit
    → (row_width * (k + 1) ≤ length rows → RowOf cells rows' k (part_at sorts n p)) × PutsFrom (params_bytes (part_at sorts n p)) w o w' o'

-- a node that gets a new equation is noted, another is not
pub record Noting (cells sorts rows o : List ℕ) (own : ℕ) (s : PartWalk) (rows' o' : List ℕ) (r : Noted) : Type 0 where
  pub kept : RowsKept rows s.count rows'
  pub count_is : own ≡ 1 → r.count ≡ s.count + 1
  pub notes : own ≡ 1 → Notes cells sorts rows o s.at s.level s.count s.w rows' o' r.w
  pub count_same : (own ≡ 1 → ⊥) → r.count ≡ s.count
  pub nothing : (own ≡ 1 → ⊥) → PutsFrom [] s.w o r.w o'

-- a sum opens a level
pub record Enters (left sorts : List ℕ) (n need D : ℕ) (left' sorts' : List ℕ) : Type 0 where
  pub left_is : need - 1 < cell_limit → left' ≡ set left n (need - 1)
  pub sorts_is : sorts' ≡ set sorts n (D % byte_limit)
