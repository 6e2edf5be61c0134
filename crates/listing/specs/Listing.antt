-- The right side of each equation, and what is counted and written of them all.
use Rattle.std.specs.Prelude.{◌≡◌, List, Result, MatchResult, ◌++◌, Bool, true, false, ℕ, ◌+◌, ◌*◌, ◌≤◌, ◌<◌, min, length, take, drop, get_or}
use Rattle.pcrl.specs.Limits.{max_summands, max_equations}
use Rattle.pcrl.specs.Tests.{Every}
use Rattle.pcrl.specs.Sheet.{Proc, Sheet}
use Rattle.pcrl.specs.Parts.{new_count, as_params, all_new_parts, count}
use Rattle.pcrl.specs.Table.{Summand, equation, summand_count}
use Rattle.pcrl.specs.Stream.{encode_list, encode_summand}
use Rattle.pcrl.specs.Right.{SummandWithin}
use Rattle.pcrl.specs.Heads.{heads, fuel, table_of}
use Rattle.nodes.specs.declared.Outline.{Outline}
use Rattle.nodes.specs.Layout.{byte_limit, seq_kind, enc}
use Rattle.nodes.specs.Nodes.{kind_of}
use Rattle.nodes.specs.Held.{proc_width}
use Rattle.nodes.specs.Scoped.{max_scope}
use Rattle.marking.specs.Marks.{bits}
use Rattle.refusals.specs.declared.Refusal.{Refusal}
use Rattle.refusals.specs.declared.Refusal.TheVariants.{NoRoom}
use Rattle.putting.specs.Slots.{Adds}
use Rattle.following.specs.Fine.{Fine}
use Rattle.contexts.specs.Spots.{Ready, SummandFits}
use Rattle.parts.specs.Rows.{row_width, RowsOf}
use Rattle.parts.specs.Sheets.{Placed}
use Rattle.listing.specs.declared.Source.{Source}
use Rattle.listing.specs.Summands.{SummandsWithin, SummandsFit, summands_bytes}

-- counts are cut here: one more than there may be summands
abbrev pub count_cut : ℕ
count_cut = max_summands + 1

-- the summands of equation k, and their bytes
unfoldable pub summands_at : Sheet → ℕ → List Summand
summands_at H k = (equation (table_of H) k).summands

unfoldable pub bytes_at : Sheet → ℕ → List ℕ
bytes_at H k = encode_list encode_summand (summands_at H k)

pub record Bounded (r : Source) : Type 0 where
  pub scope_few : r.scope ≤ max_scope
  pub next_few : r.next ≤ max_scope
  pub first_few : r.first < byte_limit

-- the right side of equation k
pub record SourceOf (H : Sheet) (cells : List ℕ) (k : ℕ) (r : Source) : Type 0 where
  pub term : Proc
  pub after : Bool
  pub rest : List ℕ
  pub place : drop r.at cells ≡ enc after term ++ rest
  pub no_seq : kind_of term ≡ seq_kind → after ≡ false
  pub fine : Fine H r.scope term
  pub few : r.first + new_count false term < byte_limit
  pub is : summands_at H k ≡ heads H (fuel H) (as_params (bits r.scope r.marks) 0) r.next r.first term

-- a sheet that is held, with the rows of its new equations, its counts and first numbers; `total` equations
pub record Posed (procs cells starts counts firsts : List ℕ) (n : Outline) (rows : List ℕ) (total f : ℕ) (H : Sheet) : Type 0 where
  pub placed : Placed H procs cells starts n
  pub rows_of : RowsOf cells rows 0 (all_new_parts H.procs)
  pub ready : Ready H f cells starts counts firsts
  pub fuel_is : f ≡ fuel H
  pub total_is : total ≡ length H.procs + length (all_new_parts H.procs)
  pub few : length (all_new_parts H.procs) ≤ max_equations

-- ---- the right side of equation k, from the arrays
-- every bit is set
abbrev pub all_marks : ℕ
all_marks = 4294967295

pub record WrittenSource (procs starts firsts : List ℕ) (k : ℕ) (r : Source) : Type 0 where
  pub at_is : r.at ≡ get_or starts k 0
  pub scope_is : get_or procs (proc_width * k) 0 ≤ max_scope → r.scope ≡ get_or procs (proc_width * k) 0
  pub marks_are : r.marks ≡ all_marks
  pub next_is : r.next ≡ r.scope
  pub first_is : r.first ≡ get_or firsts k 0

pub record PartSource (rows : List ℕ) (k j : ℕ) (r : Source) : Type 0 where
  pub at_is : r.at ≡ get_or rows (row_width * j) 0
  pub scope_is : get_or rows (row_width * j + 1) 0 ≤ max_scope → r.scope ≡ get_or rows (row_width * j + 1) 0
  pub marks_are : r.marks ≡ get_or rows (row_width * j + 2) 0
  pub next_is : count (bits max_scope r.marks) ≤ max_scope → r.next ≡ count (bits max_scope r.marks)
  pub first_is : r.first ≡ k + 1

abbrev pub Sources : (procs starts firsts : List ℕ) → Outline → (rows : List ℕ) (k : ℕ) → Source → Type 0
Sources procs starts firsts n rows k r =
    (cells counts : List ℕ) (total f : ℕ) (H : Sheet) → Posed procs cells starts counts firsts n rows total f H → k < total → SourceOf H cells k r

-- ---- all of them
abbrev pub CountsAll : (procs cells starts counts firsts : List ℕ) → Outline → (rows : List ℕ) (total f : ℕ) → ℕ → Type 0
CountsAll procs cells starts counts firsts n rows total f r =
    (H : Sheet) → Posed procs cells starts counts firsts n rows total f H → r ≡ min count_cut (summand_count (table_of H).equations)

-- a list with its count is written; or not every summand has the limits, or there is no room: then none is left
abbrev pub ListPut : List Summand → (w : ℕ) (o : List ℕ) → Result ℕ Refusal → (o' : List ℕ) → Type 0
ListPut hs w o r o' =
    MatchResult r (λ v. Every SummandWithin hs × Adds (encode_list encode_summand hs) w o v o')
    (λ e. Every SummandFits hs → (e ≡ NoRoom) × (length o < w + length (encode_list encode_summand hs)))

abbrev pub EquationPut : (cells starts counts firsts : List ℕ) (f : ℕ) → Source → (w : ℕ) (o : List ℕ) → Result ℕ Refusal → List ℕ → Type 0
EquationPut cells starts counts firsts f s w o r o' =
    (H : Sheet) (k : ℕ) → Ready H f cells starts counts firsts → f ≡ fuel H → SourceOf H cells k s → length (summands_at H k) < byte_limit → ListPut (summands_at H k) w o r o'

abbrev pub AllPut : Sheet → (w : ℕ) (o : List ℕ) → Result ℕ Refusal → (o' : List ℕ) → Type 0
AllPut H w o r o' =
    MatchResult r (λ v. SummandsWithin (table_of H).equations × (v ≡ w + length (summands_bytes (table_of H).equations)) × (take v o' ≡ take w o ++ summands_bytes (table_of H).equations) × (v ≤ length o))
    (λ e. SummandsFit (table_of H).equations → (e ≡ NoRoom) × (length o < w + length (summands_bytes (table_of H).equations)))

abbrev pub PutsAll : (procs cells starts counts firsts : List ℕ) → Outline → (rows : List ℕ) (total f w : ℕ) (o : List ℕ) → Result ℕ Refusal → List ℕ → Type 0
PutsAll procs cells starts counts firsts n rows total f w o r o' =
    (H : Sheet) → Posed procs cells starts counts firsts n rows total f H → summand_count (table_of H).equations ≤ max_summands → AllPut H w o r o'
