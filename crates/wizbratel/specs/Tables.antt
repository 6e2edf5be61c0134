-- What the operations promise that write a file or a text, for all input: the answer, and what every lent byte and number then is.
use Rattle.std.specs.Prelude.{◌≡◌, List, ℕ, length}
use Rattle.pcrl.specs.Result.{Result, refused, accepted, refusal}
use Rattle.pcrl.specs.Answers.{file_made, output_after, table_printed}

-- the lent count of bytes, which was w: as it was after a refusal, and else the length of what was written
unfoldable pub written_after : Result (List ℕ) → ℕ → ℕ
written_after (refused n) w = w
written_after (accepted file) w = length file

-- What was to be written, or why not; the output and the count as they were; the answer; the output and the count as they are then.
pub record WritePromise (x : Result (List ℕ)) (out : List ℕ) (written r : ℕ) (out' : List ℕ) (written' : ℕ) : Type 0 where
  pub answer : r ≡ refusal x
  pub output : out' ≡ output_after x out
  pub count : written' ≡ written_after x written

-- of `wizbratel_make_table`, on the bytes of a sheet
abbrev pub MakePromise : (sheet out : List ℕ) (written r : ℕ) (out' : List ℕ) (written' : ℕ) → Type 0
MakePromise sheet out written r out' written' = WritePromise (file_made sheet (length out)) out written r out' written'

-- of `wizbratel_print_table`, on the bytes of a table file
abbrev pub PrintPromise : (file out : List ℕ) (written r : ℕ) (out' : List ℕ) (written' : ℕ) → Type 0
PrintPromise file out written r out' written' = WritePromise (table_printed file (length out)) out written r out' written'
