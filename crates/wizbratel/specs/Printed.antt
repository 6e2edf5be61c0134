-- Over the functions' own promises: what `wizbratel_print_table` wrote is a sheet from which `wizbratel_make_table` makes the same file again,
-- or, of a table without hex F2, the file with its sorts' names; after a refusal every lent byte is as it was.
use Rattle.std.specs.Prelude.{◌≡◌, List, ℕ, ◌≤◌, length, get_or, take, drop}
use Rattle.std.proofs.Common.{sym, subst, ◌∙◌, arith}
use Rattle.std.proofs.Math.Path.{ap}
use Rattle.pcrl.specs.Result.{refused, accepted, refusal}
use Rattle.pcrl.specs.Table.{Table, renewed}
use Rattle.pcrl.specs.Stream.{names_code}
use Rattle.pcrl.specs.Blocks.{file_of}
use Rattle.pcrl.specs.Answers.{stream_read, table_checked, file_made, text_printed, table_printed}
use Rattle.laws.specs.Questions.{accepted_one}
use Rattle.making.proofs.Numbers.{question_apart, question_of_apart, after_apart, passed}
use Rattle.printing.specs.Seventeen.{print_then_make, print_then_make_same}
use Rattle.wizbratel.specs.Tables.{MakePromise, PrintPromise}
use Rattle.wizbratel.specs.Written.{what_was_written, refusal_leaves}
use Rattle.wizbratel.specs.Made.{file_written}

-- no question has the number 0
pub printed_number : (file : List ℕ) (room : ℕ) → table_printed file room ≡ refused 0 → ⊥
unfolding table_printed text_printed table_checked stream_read
printed_number file room =
    after_apart 0 (table_checked file) _
    (after_apart 0 (stream_read file) _ (question_apart 0 12 _ _ (λ z. omega arith) (λ _. question_apart 0 13 _ _ (λ z. omega arith) (λ _. passed 0 _))) (λ s. question_of_apart 0 14 _ _ (λ z. omega arith) (λ U. passed 0 U)))
    (λ U. question_of_apart 0 17 _ _ (λ z. omega arith) (λ _. question_apart 0 11 _ _ (λ z. omega arith) (λ _. passed 0 _)))

module _ (file out : List ℕ) (w r : ℕ) (out' : List ℕ) (w' : ℕ) (promise : PrintPromise file out w r out' w') where
  -- the text that was written, where nothing was refused
  pub text_written : r ≡ 0 → (text : List ℕ) × (table_printed file (length out) ≡ accepted text) × (take w' out' ≡ text) × (drop w' out' ≡ drop w' out)
  text_written zero = what_was_written (table_printed file (length out)) out w r out' w' promise (printed_number file (length out)) zero

  -- a table made of the text is the file f, if making it of the text is to write f and there is room
  made_of_text : (f : List ℕ) (out₂ : List ℕ) (w₂ r₂ : ℕ) (out₂' : List ℕ) (w₂' : ℕ) → MakePromise (take w' out') out₂ w₂ r₂ out₂' w₂' → file_made (take w' out') (length out₂) ≡ accepted f → (r₂ ≡ 0) × (take w₂' out₂' ≡ f)
  unfolding refusal
  made_of_text f out₂ w₂ r₂ out₂' w₂' make again =
      let ok : r₂ ≡ 0 = make.answer ∙ ap refusal again in
      let (same, made, written, rest) = file_written (take w' out') out₂ w₂ r₂ out₂' w₂' make ok in
      (ok, written ∙ accepted_one made again)

  -- WHAT WAS PRINTED IS READ BACK: of a file with hex F2 (its fifth byte, the first of the stream), a table made of the text, with room for the
  -- file, is that file, byte for byte.
  pub printed_is_made : r ≡ 0 → get_or file 4 0 ≡ names_code → (out₂ : List ℕ) (w₂ r₂ : ℕ) (out₂' : List ℕ) (w₂' : ℕ) → MakePromise (take w' out') out₂ w₂ r₂ out₂' w₂' → length file ≤ length out₂ → (r₂ ≡ 0) × (take w₂' out₂' ≡ file)
  printed_is_made zero named out₂ w₂ r₂ out₂' w₂' make room =
      let (text, printed, front, behind) = text_written zero in
      made_of_text file out₂ w₂ r₂ out₂' w₂' make (subst (λ (s : List ℕ). file_made s (length out₂) ≡ accepted file) (sym front) (print_then_make_same file (length out) text printed named (length out₂) room))

  -- OF ANY FILE: the table made of the text is the table of the file, with its sorts' names in the stream.
  pub printed_is_renewed : r ≡ 0 → (U : Table) × (table_checked file ≡ accepted U)
      × ((out₂ : List ℕ) (w₂ r₂ : ℕ) (out₂' : List ℕ) (w₂' : ℕ) → MakePromise (take w' out') out₂ w₂ r₂ out₂' w₂' → length (file_of (renewed U)) ≤ length out₂ → (r₂ ≡ 0) × (take w₂' out₂' ≡ file_of (renewed U)))
  printed_is_renewed zero =
      let (text, printed, front, behind) = text_written zero in
      let (U, checked, make_again) = print_then_make file (length out) text printed in (
        U,
        checked,
        λ out₂ w₂ r₂ out₂' w₂' make room. made_of_text (file_of (renewed U)) out₂ w₂ r₂ out₂' w₂' make (subst (λ (s : List ℕ). file_made s (length out₂) ≡ accepted (file_of (renewed U))) (sym front) (make_again (length out₂) room)),
      )

  -- A REFUSAL LEAVES EVERY LENT BYTE.
  pub unprinted_leaves : (r ≡ 0 → ⊥) → (out' ≡ out) × (w' ≡ w)
  unprinted_leaves some = refusal_leaves (table_printed file (length out)) out w r out' w' promise some
