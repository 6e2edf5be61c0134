-- The new equations of a whole sheet: how many, their rows, and the lists of parameters of all equations.
use Rattle.std.specs.Prelude.{◌≡◌, List, Option, [], ◌∷◌, ◌++◌, map, ℕ, ◌+◌, ◌*◌, ◌%◌, ◌≤◌, min, length, take}
use Rattle.pcrl.specs.Limits.{frame_width, max_equations}
use Rattle.pcrl.specs.Blocks.{concatenated}
use Rattle.pcrl.specs.Tests.{Every}
use Rattle.pcrl.specs.Reader.{all}
use Rattle.pcrl.specs.Sheet.{Process, Sheet}
use Rattle.pcrl.specs.Parts.{NewPart, all_new_parts}
use Rattle.pcrl.specs.Table.{params_of}
use Rattle.pcrl.specs.Heads.{table_of}
use Rattle.pcrl.specs.Stream.{encode_numbers, encode_list}
use Rattle.theory.specs.Standing.{RightProcess}
use Rattle.nodes.specs.declared.Outline.{Outline}
use Rattle.nodes.specs.Layout.{byte_limit}
use Rattle.nodes.specs.Held.{proc_width, SortsAt, HeldProcs}
use Rattle.emit.specs.Bytes.{row_bytes}
use Rattle.emit.specs.Putting.{Puts}
use Rattle.parts.specs.declared.Noted.{Noted}
use Rattle.parts.specs.Behind.{PutsFrom}
use Rattle.parts.specs.Rows.{row_width, part_params, params_bytes, RowsOf}
use Rattle.parts.specs.Walking.{Few}

-- counts are cut here: one more than there may be equations
abbrev pub count_cut : ℕ
count_cut = max_equations + 1

-- the sorts of a row, at the front of an array
abbrev pub Loads : (procs : List ℕ) (p : ℕ) (sorts : List ℕ) → ℕ → Type 0
Loads procs p sorts r = (Ds : List ℕ) → SortsAt Ds procs p → length Ds ≤ frame_width → (r ≡ length Ds) × (take r sorts ≡ Ds)

-- a sheet that is held, and passes questions 1 to 9
pub record Placed (H : Sheet) (procs cells starts : List ℕ) (n : Outline) : Type 0 where
  pub held : HeldProcs H procs cells starts n
  pub right : Every (RightProcess H) H.procs
  pub few : Few H cells

abbrev pub CountsParts : (procs cells starts : List ℕ) → Outline → ℕ → Type 0
CountsParts procs cells starts n r = (H : Sheet) → Placed H procs cells starts n → r ≡ min count_cut (length H.procs + length (all_new_parts H.procs))

-- rows and parameters of all parts
pub record AllPut (cells : List ℕ) (w : Option ℕ) (o : List ℕ) (parts : List NewPart) (r : Noted) (rows' o' : List ℕ) : Type 0 where
  pub count_is : r.count ≡ length parts
  pub rows_of : RowsOf cells rows' 0 parts
  pub puts : PutsFrom (all params_bytes parts) w o r.w o'

abbrev pub PutsAll : (procs cells starts : List ℕ) → Outline → (rows : List ℕ) (w : Option ℕ) (o : List ℕ) → Noted → (rows' o' : List ℕ) → Type 0
PutsAll procs cells starts n rows w o r rows' o' =
    (H : Sheet) → Placed H procs cells starts n → row_width * length (all_new_parts H.procs) ≤ length rows → AllPut cells w o (all_new_parts H.procs) r rows' o'

-- the lists of parameters of all equations, the written ones first
unfoldable pub all_params : Sheet → List (List ℕ)
all_params H = map (λ (p : Process). p.params) H.procs ++ map part_params (all_new_parts H.procs)

-- how many equations, and the rows of the written processes
abbrev pub front_bytes : List ℕ → (n total : ℕ) → List ℕ
front_bytes procs n total = (total % byte_limit ∷ []) ++ concatenated n (λ k. row_bytes procs (proc_width * k))

-- the count of equations, the lists of their parameters, and the rows of the new ones
pub record ParamsPut (cells : List ℕ) (w : ℕ) (o : List ℕ) (H : Sheet) (r : Noted) (rows' o' : List ℕ) : Type 0 where
  pub count_is : r.count ≡ length (all_new_parts H.procs)
  pub rows_of : RowsOf cells rows' 0 (all_new_parts H.procs)
  pub puts : Puts (encode_list encode_numbers (params_of (table_of H).equations)) w o r.w o'

abbrev pub PutsParams : (procs cells starts : List ℕ) → Outline → ℕ → (rows : List ℕ) (w : ℕ) (o : List ℕ) → Noted → (rows' o' : List ℕ) → Type 0
PutsParams procs cells starts n total rows w o r rows' o' =
    (H : Sheet) → Placed H procs cells starts n → total ≡ length H.procs + length (all_new_parts H.procs) → total ≤ max_equations → row_width * max_equations ≤ length rows → ParamsPut cells w o H r rows' o'
