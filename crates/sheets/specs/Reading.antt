-- What is answered to a sheet's bytes: the first question that fails, or the resolved sheet in arrays.
use Rattle.std.specs.Prelude.{List, ℕ, ◌*◌, ◌≤◌, ◌<◌, min, length}
use Rattle.std.specs.Prelude as R
use Rattle.pcrl.specs.Limits.{max_bytes}
use Rattle.pcrl.specs.Result.{Result, accepted, question}
use Rattle.pcrl.specs.Tests.{T?}
use Rattle.pcrl.specs.Sheet.{Sheet}
use Rattle.pcrl.specs.Sorts.{rightly_sorted?}
use Rattle.pcrl.specs.Circles.{guarded}
use Rattle.nodes.specs.Layout.{cell_limit}
use Rattle.nodes.specs.Held.{Held}
use Rattle.sheets.specs.declared.SheetRows.{SheetRows}
use Rattle.refusals.specs.declared.Refusal.{Refusal}
use Rattle.refusals.specs.Answered.{Answered}
use Rattle.sheets.specs.Resolving.{arrays, Holds}

-- room for the tree of a sheet, for its functions' values, and for its tokens and then what it resolves to; a sheet has no more tokens than
-- bytes, and a value takes two tokens
pub record Room (sheet raw values cells : List ℕ) : Type 0 where
  pub tree_room : 3 * min (length sheet) max_bytes ≤ length raw
  pub tree_few : length raw < cell_limit
  pub values_room : min (length sheet) max_bytes ≤ 2 * length values
  pub values_few : length values < cell_limit
  pub cells_room : 3 * min (length sheet) max_bytes ≤ length cells
  pub cells_few : length cells < cell_limit

-- questions 8 and 9 of a resolved sheet
unfoldable pub judged : Sheet → Result Sheet
judged H = question 8 (rightly_sorted? H) (λ _. question 9 (T? (guarded H)) (λ _. accepted H))

abbrev pub Judges : {B : Type 0} → SheetRows → (values cells : List ℕ) → R.Result B Refusal → Type 0
Judges rows values cells r = (H : Sheet) → Held H (arrays rows values cells) rows.outline → Answered (λ K b. Unit {0}) (judged H) r

-- s: the sheet's bytes
abbrev pub Reads : Result Sheet → (s : List ℕ) → R.Result SheetRows Refusal → (values cells : List ℕ) → Type 0
Reads a s r values cells = Answered (Holds s values cells) a r
