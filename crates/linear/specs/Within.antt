-- The whole stream of a sheet's table; or the table is not within its limits, or there is no room for it.
use Rattle.std.specs.Prelude.{◌≡◌, List, Result, MatchResult, ℕ, ◌+◌, ◌-◌, ◌*◌, ◌≤◌, ◌<◌, length, take, get_or}
use Rattle.pcrl.specs.Limits.{frame_width, max_sorts, max_functions, max_actions, max_processes}
use Rattle.pcrl.specs.Parts.{count}
use Rattle.pcrl.specs.Sheet.{Sheet}
use Rattle.pcrl.specs.Heads.{table_of}
use Rattle.pcrl.specs.Stream.{encode}
use Rattle.pcrl.specs.Right.{Within}
use Rattle.theory.specs.Standing.{Standing}
use Rattle.nodes.specs.Layout.{cell_limit}
use Rattle.nodes.specs.declared.Outline.{Outline}
use Rattle.nodes.specs.Held.{Arrays, Held}
use Rattle.emit.specs.Bytes.{NamesAt, SortNamesAt}
use Rattle.nodes.specs.Scoped.{max_scope}
use Rattle.marking.specs.Marks.{bits}
use Rattle.sheets.specs.declared.SheetRows.{SheetRows}
use Rattle.sheets.specs.Resolving.{arrays}
use Rattle.parts.specs.Rows.{row_width}
use Rattle.refusals.specs.declared.Refusal.{Refusal}
use Rattle.refusals.specs.declared.Refusal.TheVariants.{NoRoom}

-- no row has more marks than a frame has values
abbrev pub FewMarks : List ℕ → ℕ → Type 0
FewMarks rows n = (k : ℕ) → k < n → count (bits max_scope (get_or rows (row_width * k + 2) 0)) ≤ frame_width

-- the table of a sheet that is held; where it is within its limits and is not written, no room is left
abbrev pub TableWritten : Sheet → (o : List ℕ) → Result ℕ Refusal → (o' : List ℕ) → Type 0
TableWritten H o r o' =
    MatchResult r (λ n. Within (table_of H) × (n ≡ length (encode (table_of H))) × (take n o' ≡ encode (table_of H)) × (n ≤ length o))
    (λ e. Within (table_of H) → (e ≡ NoRoom) × (length o < length (encode (table_of H))))

-- a sheet that passes questions 1 to 9, in arrays; s are its bytes, and the cells of its names stand in `names`
pub record ReadyIn (H : Sheet) (s : List ℕ) (A : Arrays) (names : List ℕ) (n : Outline) : Type 0 where
  pub standing : Standing H
  pub held : Held H A n
  pub named : NamesAt s names (n.sorts - 1 + n.funcs) H.sig.acts
  pub sorts_named : SortNamesAt s names H.sig.sort_names
  pub cells_few : length A.cells < cell_limit

abbrev pub WritesStream : (s : List ℕ) → Arrays → (names : List ℕ) → Outline → List ℕ → Result ℕ Refusal → List ℕ → Type 0
WritesStream s A names n o r o' = (H : Sheet) → ReadyIn H s A names n → TableWritten H o r o'

-- so few as a sheet has that passes question 6
pub record FewIn (n : Outline) : Type 0 where
  pub sorts_few : n.sorts ≤ max_sorts
  pub funcs_few : n.funcs ≤ max_functions
  pub acts_few : n.acts ≤ max_actions
  pub procs_few : n.procs ≤ max_processes

abbrev pub WritesTable : (s : List ℕ) → SheetRows → (values cells o : List ℕ) → Result ℕ Refusal → List ℕ → Type 0
WritesTable s rows values cells o r o' = WritesStream s (arrays rows values cells) rows.names rows.outline o r o'
