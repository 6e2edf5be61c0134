-- The table written for an accepted sheet: its file is accepted as the table of that sheet, which is in good standing and within its limits.
use Rattle.std.specs.Prelude.{◌≡◌, List, ℕ}
use Rattle.pcrl.specs.Result.{accepted}
use Rattle.pcrl.specs.Sheet.{Sheet}
use Rattle.pcrl.specs.Heads.{table_of}
use Rattle.pcrl.specs.Right.{Within}
use Rattle.pcrl.specs.Answers.{sheet_read, table_checked}
use Rattle.theory.specs.Standing.{Standing}

-- the file is the one that was written for the sheet with these bytes
pub record WrittenFor (bytes file : List ℕ) : Type 0 where
  pub sheet : Sheet
  pub read : sheet_read bytes ≡ accepted sheet
  pub standing : Standing sheet
  pub within : Within (table_of sheet)
  pub checked : table_checked file ≡ accepted (table_of sheet)
