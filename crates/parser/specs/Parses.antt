-- What the parser answers: question 5, the tree in cells, and where the first lines of each kind stand.
use Rattle.std.specs.Prelude.{◌≡◌, List, ◌∷◌, ◌++◌, map, ℕ, ◌≤◌, ◌<◌, length, take, drop, get_or}
use Rattle.std.specs.Prelude as R
use Rattle.std.proofs.Math.Option.{Option, none, some}
use Rattle.pcrl.specs.Tree.{RawSheet}
use Rattle.parser.specs.Cells.{Symbol, symbol_of, enc_sort, enc_func, enc_act, enc_proc, enc_init, enc_sheet}
use Rattle.parser.specs.declared.Parsed.{Parsed}

-- e stands at a place of the tree
abbrev pub Stands : List Symbol → ℕ → List Symbol → Type 0
Stands tree at e = (r : List Symbol) × (drop at tree ≡ e ++ r)

-- How many lines of a kind there are, and each of the first ones stands where its place says.
pub record Kept {A : Type 0} (enc : A → List Symbol) (ls : List A) (count : ℕ) (places : List ℕ) (tree : List Symbol) : Type 0 where
  pub counted : count ≡ length ls
  pub stand : (before : List A) (l : A) (after : List A) → ls ≡ before ++ (l ∷ after) → length before < length places → Stands tree (get_or places (length before) 0) (enc l)

-- The first cells are the tree's.
pub record Tree (s : List ℕ) (R : RawSheet) (r : Parsed) (cells : List ℕ) : Type 0 where
  pub used : r.used ≡ length (enc_sheet R)
  pub room : r.used ≤ length cells
  pub tree : map (symbol_of s) (take r.used cells) ≡ enc_sheet R
  pub sorts : Kept enc_sort R.sorts r.lines.sort_count r.lines.sorts (enc_sheet R)
  pub funcs : Kept enc_func R.funcs r.lines.func_count r.lines.funcs (enc_sheet R)
  pub acts : Kept enc_act R.acts r.lines.act_count r.lines.acts (enc_sheet R)
  pub procs : Kept enc_proc R.procs r.lines.proc_count r.lines.procs (enc_sheet R)
  pub init : Stands (enc_sheet R) r.lines.init (enc_init R.start)

-- The parser finds a tree exactly where the definition does.
unfoldable pub Parses : Option RawSheet → List ℕ → R.Option Parsed → List ℕ → Type 0
Parses none s R.None cells = Unit {0}
Parses (some T) s (R.Some r) cells = Tree s T r cells
Parses none s (R.Some r) cells = ⊥
Parses (some T) s R.None cells = ⊥
