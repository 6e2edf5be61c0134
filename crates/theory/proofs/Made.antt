-- What is made is checked: a table that is made of accepted bytes is right, and its file is accepted as that table.
use Rattle.std.specs.Prelude.{◌≡◌, List, ℕ}
use Rattle.std.proofs.Common.{sym, subst}
use Rattle.pcrl.specs.Result.{accepted}
use Rattle.pcrl.specs.Sheet.{Sheet}
use Rattle.pcrl.specs.Table.{Table}
use Rattle.pcrl.specs.Heads.{table_of}
use Rattle.pcrl.specs.Right.{Within, within?, RightTable}
use Rattle.pcrl.specs.Blocks.{file_of, room?}
use Rattle.pcrl.specs.Answers.{sheet_read, table_made, stream_filed, file_made, table_checked}
use Rattle.laws.specs.Questions.{past_question, past_answer}
use Rattle.codec.specs.FileLaws.{read_written}
use Rattle.theory.specs.Standing.{Standing}
use Rattle.theory.proofs.Accepted.{accepted_standing}
use Rattle.theory.proofs.TableRight.{table_right}

-- what questions 1 to 10 have found of the bytes s, of which T was made
pub record Made (s : List ℕ) (T : Table) : Type 0 where
  pub sheet : Sheet
  pub read : sheet_read s ≡ accepted sheet
  pub standing : Standing sheet
  pub table : table_of sheet ≡ T
  pub within : Within T
  pub right : RightTable T

-- A table that is made is the table of a sheet in good standing, within its limits, and right.
pub made_all : (s : List ℕ) (T : Table) → table_made s ≡ accepted T → Made s T
unfolding table_made
made_all s T e =
    past_answer (sheet_read s) _ T e (λ H h₁ e₁.
    past_question 10 (within? (table_of H)) _ T e₁ (λ w e₂.
    let z : table_of H ≡ T = cc in
    let ok = accepted_standing s H h₁ in
    record { sheet = H; read = h₁; standing = ok; table = z; within = subst Within z w; right = subst RightTable z (table_right H ok w) }))

-- The file of a sheet's table is accepted as that table.
pub table_of_checked : (H : Sheet) → Standing H → Within (table_of H) → table_checked (file_of (table_of H)) ≡ accepted (table_of H)
table_of_checked H ok within = read_written (table_of H) (table_right H ok within)

-- WHAT IS MADE IS CHECKED: a file that is made of a sheet's bytes is the file of their table, and is accepted as it.
pub file_made_checked : (s : List ℕ) (room : ℕ) (file : List ℕ) → file_made s room ≡ accepted file
    → (T : Table) × (table_made s ≡ accepted T) × (file ≡ file_of T) × (table_checked file ≡ accepted T)
unfolding file_made stream_filed file_of
file_made_checked s room file e =
    past_answer (table_made s) _ file e (λ T h₁ e₁.
    past_question 11 (room? (file_of T) room) _ file e₁ (λ w e₂.
    let z : file_of T ≡ file = cc in
    (T, h₁, sym z, subst (λ (f : List ℕ). table_checked f ≡ accepted T) z (read_written T (made_all s T h₁).right))))
