-- Question 17 and the operations: the text of a table is refused by one of questions 1 to 8 or by none of 1 to 10, and what is printed is read back.
use Rattle.std.specs.Prelude.{◌≡◌, refl, List, ◌↔◌, ℕ, ◌≤◌, length, get_or}
use Rattle.std.proofs.Common.{ap, sym, subst, arith}
use Rattle.std.proofs.Math.Option.{Option, none, some, none-ne-some, some-injective}
use Rattle.pcrl.specs.Result.{Result, refused, accepted, question, question_of, after, refusal, passed}
use Rattle.pcrl.specs.Bytes.{short?, printable?}
use Rattle.pcrl.specs.Tokens.{tokens, shallow?}
use Rattle.pcrl.specs.Grammar.{parse}
use Rattle.pcrl.specs.Counts.{counted?}
use Rattle.pcrl.specs.Names.{resolve}
use Rattle.pcrl.specs.Sheet.{Sheet}
use Rattle.pcrl.specs.Sorts.{rightly_sorted?}
use Rattle.pcrl.specs.Table.{Table, renewed}
use Rattle.pcrl.specs.Stream.{names_code}
use Rattle.pcrl.specs.Right.{RightTable}
use Rattle.pcrl.specs.Blocks.{file_of, room?}
use Rattle.pcrl.specs.Printer.{table_text}
use Rattle.pcrl.specs.Answers.{tokens_read, tree_read, sorted_read, sheet_read, file_made, table_checked, text_printed, table_printed}
use Rattle.laws.specs.Questions.{past_question, past_question_of, past_answer}
use Rattle.codec.proofs.Layouts.{layout_of_file}
use Rattle.printing.specs.ReadBack.{printed_sheet, own_file, older_reads_back}

-- a refusal is by a question, and questions are counted from 1
unfoldable ByQuestion : {A : Type 0} → Result A → Type 0
ByQuestion (refused n) = 1 ≤ n
ByQuestion (accepted a) = Unit {0}

by_question : {P B : Type 0} (n : ℕ) (d : Dec P) (rest : P → Result B) → 1 ≤ n → ((h : P) → ByQuestion (rest h)) → ByQuestion (question n d rest)
unfolding question ByQuestion
by_question n (yes h) rest l k = k h
by_question n (no h) rest l k = l

by_question_of : {A B : Type 0} (n : ℕ) (o : Option A) (rest : A → Result B) → 1 ≤ n → ((a : A) → ByQuestion (rest a)) → ByQuestion (question_of n o rest)
unfolding question_of ByQuestion
by_question_of n none rest l k = l
by_question_of n (some a) rest l k = k a

by_after : {A B : Type 0} (r : Result A) (rest : A → Result B) → ByQuestion r → ((a : A) → ByQuestion (rest a)) → ByQuestion (after r rest)
unfolding after ByQuestion
by_after (refused n) rest l k = l
by_after (accepted a) rest l k = k a

by_read : (s : List ℕ) → ByQuestion (sorted_read s)
unfolding sorted_read tree_read tokens_read ByQuestion
by_read s =
    by_after (tree_read s) _
    (by_after (tokens_read s) _
    (by_question 1 (short? s) _ (omega arith) (λ _.
    by_question 2 (printable? s) _ (omega arith) (λ _.
    by_question_of 3 (tokens s) _ (omega arith) (λ ts.
    by_question 4 (shallow? ts) _ (omega arith) (λ _. tt)))))
    (λ ts. by_question_of 5 (parse ts) _ (omega arith) (λ R. tt)))
    (λ R.
    by_question 6 (counted? R) _ (omega arith) (λ _.
    by_question_of 7 (resolve R) _ (omega arith) (λ H.
    by_question 8 (rightly_sorted? H) _ (omega arith) (λ _. tt))))

-- QUESTION 9 NEVER FAILS THERE.
pub nine_passes : (U : Table) → RightTable U → sheet_read (table_text U) ≡ sorted_read (table_text U)
unfolding sheet_read after
nine_passes U right = go (sorted_read (table_text U)) refl
  where
    go : (r : Result Sheet) → sorted_read (table_text U) ≡ r → sheet_read (table_text U) ≡ r
    go (refused n) e = rw e
    go (accepted H) e = (printed_sheet U right H e).0

refused_none : {A : Type 0} (r : Result A) → ByQuestion r → (passed r ≡ none) ↔ ¬ (refusal r ≡ 0)
unfolding passed refusal ByQuestion
refused_none (refused n) l = (λ e z. omega arith, λ k. refl)
refused_none (accepted a) l = (λ e. absurd (none-ne-some a (sym e)), λ k. absurd (k refl))

-- QUESTION 17 FAILS EXACTLY WHERE ONE OF QUESTIONS 1 TO 9 REFUSES THE TEXT.
pub seventeen_is_refused : (U : Table) → RightTable U → (passed (sorted_read (table_text U)) ≡ none) ↔ ¬ (refusal (sheet_read (table_text U)) ≡ 0)
seventeen_is_refused U right = rw (nine_passes U right) (refused_none (sorted_read (table_text U)) (by_read (table_text U)))

accepted_passed : {A : Type 0} (r : Result A) (a : A) → passed r ≡ some a → r ≡ accepted a
unfolding passed
accepted_passed (refused n) a e = absurd (none-ne-some a e)
accepted_passed (accepted b) a e = ap accepted (some-injective b a e)

-- WHAT IS PRINTED IS READ BACK: a table's file, printed as a text and made a table again, is the file of that table with the names of its sorts,
pub print_then_make : (file : List ℕ) (room : ℕ) (text : List ℕ) → table_printed file room ≡ accepted text
    → (U : Table) × (table_checked file ≡ accepted U) × ((more : ℕ) → length (file_of (renewed U)) ≤ more → file_made text more ≡ accepted (file_of (renewed U)))
unfolding table_printed text_printed
print_then_make file room text e =
    past_answer (table_checked file) _ text e (λ U checked e₁.
    past_question_of 17 (passed (sorted_read (table_text U))) _ text e₁ (λ H sorted e₂.
    past_question 11 (room? (table_text U) room) _ text e₂ (λ w e₃.
    let same : table_text U ≡ text = cc in
    (U, checked, λ more enough. subst (λ (s : List ℕ). file_made s more ≡ accepted (file_of (renewed U))) same (older_reads_back file U checked H (accepted_passed (sorted_read (table_text U)) H sorted) more enough)))))

-- and where the file has hex F2 it is that file.
pub print_then_make_same : (file : List ℕ) (room : ℕ) (text : List ℕ) → table_printed file room ≡ accepted text → get_or file 4 0 ≡ names_code
    → (more : ℕ) → length file ≤ more → file_made text more ≡ accepted file
print_then_make_same file room text e mark more enough =
    let (U, checked, made) = print_then_make file room text e in
    let own = own_file file U checked ((layout_of_file file U checked).1 mark) in
    subst (λ (f : List ℕ). file_made text more ≡ accepted f) own (made more (subst (λ (f : List ℕ). length f ≤ more) (sym own) enough))
