-- Over the functions' own promises: what `wizbratel_make_table` wrote is accepted by `wizbratel_check_table` as the table of the head rules;
-- after a refusal every lent byte is as it was; `wizbratel_check_sheet` accepts exactly the sheets whose table can be made.
use Rattle.std.specs.Prelude.{◌≡◌, List, ℕ, ◌≤◌, take, drop}
use Rattle.std.proofs.Math.Path.{refl, sym, ap, subst}
use Rattle.std.proofs.Common.{◌∙◌, arith}
use Rattle.std.proofs.Math.ListN.{length}
use Rattle.pcrl.specs.Limits.{max_stream}
use Rattle.pcrl.specs.Result.{Result, refused, accepted, refusal, after}
use Rattle.pcrl.specs.Table.{Table}
use Rattle.pcrl.specs.Stream.{encode}
use Rattle.pcrl.specs.Right.{Within}
use Rattle.pcrl.specs.Blocks.{max_file, blocks_for, file_of_stream, Room, room?}
use Rattle.pcrl.specs.Answers.{table_made, stream_filed, file_made, table_checked}
use Rattle.laws.specs.Questions.{question_passes}
use Rattle.codec.specs.FileOfStream.{length_file}
use Rattle.theory.proofs.Made.{made_all}
use Rattle.theory.specs.Written.{WrittenFor}
use Rattle.theory.proofs.Written.{written_for}
use Rattle.making.proofs.Numbers.{file_number}
use Rattle.wizbratel.specs.Tables.{MakePromise}
use Rattle.wizbratel.specs.Written.{what_was_written, refusal_leaves}

module _ (sheet out : List ℕ) (w r : ℕ) (out' : List ℕ) (w' : ℕ) (promise : MakePromise sheet out w r out' w') where
  -- the file that was written, where nothing was refused
  pub file_written : r ≡ 0 → (file : List ℕ) × (file_made sheet (length out) ≡ accepted file) × (take w' out' ≡ file) × (drop w' out' ≡ drop w' out)
  file_written zero = what_was_written (file_made sheet (length out)) out w r out' w' promise (file_number sheet (length out) 0 (λ m l u q. omega arith)) zero

  -- WHAT WAS WRITTEN IS READ AS THE TABLE OF THE HEAD RULES: for the sheet H read from the bytes, `table-checked` gives `table_of H`,
  -- so `wizbratel_check_table` answers 0; and what is behind the file is untouched.
  pub made_is_read : r ≡ 0 → WrittenFor sheet (take w' out') × (refusal (table_checked (take w' out')) ≡ 0) × (drop w' out' ≡ drop w' out)
  unfolding refusal
  made_is_read zero =
      let (file, made, front, behind) = file_written zero in
      let written = subst (WrittenFor sheet) (sym front) (written_for sheet (length out) file made) in
      (written, ap refusal written.checked, behind)

  -- A REFUSAL LEAVES EVERY LENT BYTE.
  pub refused_leaves : (r ≡ 0 → ⊥) → (out' ≡ out) × (w' ≡ w)
  refused_leaves some = refusal_leaves (file_made sheet (length out)) out w r out' w' promise some

  -- A SHEET IS ACCEPTED EXACTLY IF ITS TABLE CAN BE MADE: with so much output that no file is too long for it, both give one number.
  pub check_is_make : max_file ≤ length out → (c : ℕ) → c ≡ refusal (table_made sheet) → r ≡ c
  unfolding file_made refusal after stream_filed Room blocks_for Within
  check_is_make room c checks = promise.answer ∙ go (table_made sheet) refl ∙ sym checks
    where
      fits : (T : Table) → length (encode T) ≤ max_stream → stream_filed (encode T) (length out) ≡ accepted (file_of_stream (encode T))
      fits T short = question_passes 11 (room? (file_of_stream (encode T)) (length out)) _ (accepted (file_of_stream (encode T))) (omega (arith, length_file (encode T))) (λ _. refl)

      go : (x : Result Table) → table_made sheet ≡ x → refusal (after x (λ T. stream_filed (encode T) (length out))) ≡ refusal x
      go (refused n) e = refl
      go (accepted T) e = let m = made_all sheet T e in ap refusal (fits T m.within.1.1.1)
