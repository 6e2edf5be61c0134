-- A file that is made is the one that was written for the sheet with its bytes.
use Rattle.std.specs.Prelude.{◌≡◌, List, ℕ}
use Rattle.std.proofs.Common.{sym, subst}
use Rattle.pcrl.specs.Result.{accepted}
use Rattle.pcrl.specs.Table.{Table}
use Rattle.pcrl.specs.Right.{Within}
use Rattle.pcrl.specs.Answers.{file_made, table_checked}
use Rattle.theory.proofs.Made.{made_all, file_made_checked}
use Rattle.theory.specs.Written.{WrittenFor}

pub written_for : (bytes : List ℕ) (room : ℕ) (file : List ℕ) → file_made bytes room ≡ accepted file → WrittenFor bytes file
written_for bytes room file e =
    let (T, made, same, checked) = file_made_checked bytes room file e in
    let m = made_all bytes T made in
    record {
      sheet = m.sheet;
      read = m.read;
      standing = m.standing;
      within = subst Within (sym m.table) m.within;
      checked = subst (λ (U : Table). table_checked file ≡ accepted U) (sym m.table) checked;
    }
