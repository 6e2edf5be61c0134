-- Printing is undone by reading: where the text of a table passes questions 1 to 8, it is the text of a sheet with that table, and making the table
-- of it gives back its file, if it has hex F2, and else the file with hex F2.
use Rattle.std.specs.Prelude.{◌≡◌, refl, List, ℕ, ◌≤◌, T, length}
use Rattle.std.proofs.Common.{ap, sym, subst, ◌∙◌, arith}
use Rattle.std.proofs.Math.Option.{some-injective}
use Rattle.pcrl.specs.Limits.{max_bytes, max_stream}
use Rattle.pcrl.specs.Tests.{distinct}
use Rattle.pcrl.specs.Result.{accepted}
use Rattle.pcrl.specs.Grammar.{parse}
use Rattle.pcrl.specs.Names.{resolve}
use Rattle.pcrl.specs.Sheet.{Sheet}
use Rattle.pcrl.specs.Sorts.{RightlySorted}
use Rattle.pcrl.specs.Circles.{guarded}
use Rattle.pcrl.specs.Table.{Layout, with_names, Table, renewed}
use Rattle.pcrl.specs.Heads.{table_of}
use Rattle.pcrl.specs.Stream.{encode}
use Rattle.pcrl.specs.Right.{Within, within?, RightNames, RightTable}
use Rattle.pcrl.specs.Blocks.{Room, room?, file_of}
use Rattle.pcrl.specs.Print.{print_sheet}
use Rattle.pcrl.specs.Printer.{taken, printed, table_text}
use Rattle.pcrl.specs.Answers.{sorted_read, sheet_read, table_made, stream_filed, file_made, table_checked}
use Rattle.laws.specs.Questions.{question_passes, after_passes}
use Rattle.grammar.specs.TokenLaws.{tokens_few}
use Rattle.grammar.proofs.Printed.{parse_print}
use Rattle.codec.proofs.FileLaws.{written_read}
use Rattle.theory.proofs.Accepted.{accepted_standing}
use Rattle.theory.specs.Questions.{Resolved, resolved_all, all_accepted}
use Rattle.printing.specs.SpelledTokens.{spelled_tokens}
use Rattle.printing.specs.Plain.{PlainTable, right_plain}
use Rattle.printing.specs.PrintedSpelled.{printed_spelled}
use Rattle.printing.specs.PrintedFormed.{printed_formed}
use Rattle.printing.specs.ResolvedSheet.{printed_resolves, resolves_free}
use Rattle.printing.specs.Sided.{retold_table, SidedTable, table_retold}
use Rattle.printing.specs.Linear.{linear_sheet}
use Rattle.printing.specs.LinearTable.{linear_table, linear_guarded}
use Rattle.printing.specs.RightWithin.{right_within}
use Rattle.printing.specs.StreamShort.{renewed_short}
use Rattle.printing.specs.SortedSided.{sorted_sided}

-- The tree of the text is the printed tree,
pub text_tree : (U : Table) → PlainTable U → (H : Sheet) (r : Resolved (table_text U) H) → r.raw ≡ printed U
unfolding table_text
text_tree U plain H r =
    let same = spelled_tokens (print_sheet (printed U)) r.found (printed_spelled U plain) r.all_tokens in
    some-injective r.raw (printed U) (sym r.form ∙ ap parse same ∙ parse_print (printed U) (printed_formed U plain))

-- no sort has an action's name, since the names are new,
pub text_free : (U : Table) → PlainTable U → (H : Sheet) → Resolved (table_text U) H → T (distinct (taken U.sig))
text_free U plain H r = resolves_free U plain H (ap resolve (sym (text_tree U plain H r)) ∙ r.resolved)

-- and so the sheet of the text is the linear sheet of the retold table. As the sheet is rightly sorted, no `==` of the table stands over two values,
retold_text : (U : Table) → PlainTable U → (H : Sheet) → Resolved (table_text U) H → H ≡ linear_sheet (retold_table U)
retold_text U plain H r =
    some-injective H (linear_sheet (retold_table U)) (sym r.resolved ∙ ap resolve (text_tree U plain H r) ∙ printed_resolves U plain (text_free U plain H r))

pub text_sided : (U : Table) → PlainTable U → (H : Sheet) → Resolved (table_text U) H → SidedTable U
text_sided U plain H r = sorted_sided U (subst RightlySorted (retold_text U plain H r) r.rightly_sorted)

-- and the table is retold as it is.
text_sheet : (U : Table) → PlainTable U → (H : Sheet) → Resolved (table_text U) H → H ≡ linear_sheet U
text_sheet U plain H r = retold_text U plain H r ∙ ap linear_sheet (table_retold U (text_sided U plain H r))

-- "At most 4,096 bytes", and no more tokens
few_tokens : (U : Table) → PlainTable U → (H : Sheet) → Resolved (table_text U) H → length (print_sheet (printed U)) ≤ max_bytes
unfolding table_text
few_tokens U plain H r =
    let same = ap length (spelled_tokens (print_sheet (printed U)) r.found (printed_spelled U plain) r.all_tokens) in
    let few = tokens_few (table_text U) r.found r.all_tokens in
    let short : length (table_text U) ≤ max_bytes = r.short in
    omega arith

-- the table with its sorts' names is within its limits: its stream is short, as its text is
renewed_within : (U : Table) → RightTable U → length (encode (renewed U)) ≤ max_stream → Within (renewed U)
unfolding Within renewed
renewed_within U right short = let w = right_within U right in (w.0, (w.1.0, (w.1.1.0, short)))

-- THE TEXT OF A TABLE IS READ BACK AS THE TABLE, WITH THE NAMES OF ITS SORTS.
pub printed_sheet : (U : Table) → RightTable U → (H : Sheet) → sorted_read (table_text U) ≡ accepted H → (sheet_read (table_text U) ≡ accepted H) × (table_of H ≡ renewed U) × Within (renewed U)
unfolding linear_sheet
printed_sheet U right H e =
    let plain = right_plain U right in
    let r = resolved_all (table_text U) H e in
    let same = text_sheet U plain H r in
    let safe : T (guarded H) = subst (λ (K : Sheet). T (guarded K)) (sym same) (linear_guarded U (subst RightlySorted same r.rightly_sorted)) in
    let read = all_accepted (table_text U) H (record { as_resolved = r; no_circle = safe }) in
    let named : RightNames with_names U.sig = subst (λ (K : Sheet). RightNames with_names K.sig) same (accepted_standing (table_text U) H read).sort_names in
    (read, ap table_of same ∙ linear_table U plain, renewed_within U right (renewed_short U right named (few_tokens U plain H r)))

-- THE TABLE MADE OF THE TEXT HAS THE TABLE'S HEX F2 BYTES.
pub printed_made : (U : Table) → RightTable U → (H : Sheet) → sorted_read (table_text U) ≡ accepted H → (room : ℕ) → length (file_of (renewed U)) ≤ room
    → file_made (table_text U) room ≡ accepted (file_of (renewed U))
unfolding table_made stream_filed file_made Room file_of
printed_made U right H e room enough =
    let (read, table, within) = printed_sheet U right H e in
    let made : table_made (table_text U) ≡ accepted (renewed U) =
    after_passes (sheet_read (table_text U)) _ H (accepted (renewed U)) read (question_passes 10 (within? (table_of H)) _ _ (subst Within (sym table) within) (λ _. ap accepted table)) in
    after_passes (table_made (table_text U)) _ (renewed U) (accepted (file_of (renewed U))) made (question_passes 11 (room? (file_of (renewed U)) room) _ _ enough (λ _. refl))

renewed_same : (U : Table) → U.layout ≡ with_names → renewed U ≡ U
unfolding renewed
renewed_same U e = ap (λ (L : Layout). record { layout = L; sig = U.sig; equations = U.equations; start = U.start }) (sym e)

-- a table that has the names in its stream is that table
pub own_file : (file : List ℕ) (U : Table) → table_checked file ≡ accepted U → U.layout ≡ with_names → file_of (renewed U) ≡ file
own_file file U checked layout = ap file_of (renewed_same U layout) ∙ sym (written_read file U checked).0

-- "READING THE PRINTED SHEET YIELDS THE TABLE'S OWN BYTES", where they have hex F2,
pub printed_reads_back : (file : List ℕ) (U : Table) → table_checked file ≡ accepted U → U.layout ≡ with_names → (H : Sheet) → sorted_read (table_text U) ≡ accepted H
    → (room : ℕ) → length file ≤ room → file_made (table_text U) room ≡ accepted file
printed_reads_back file U checked layout H e room enough =
    let own = own_file file U checked layout in
    subst (λ (f : List ℕ). file_made (table_text U) room ≡ accepted f) own (printed_made U (written_read file U checked).1 H e room (subst (λ (f : List ℕ). length f ≤ room) (sym own) enough))

-- and without it "printing and reading one gives its hex F2 bytes": those of the table with the names that it has without them.
pub older_reads_back : (file : List ℕ) (U : Table) → table_checked file ≡ accepted U → (H : Sheet) → sorted_read (table_text U) ≡ accepted H
    → (room : ℕ) → length (file_of (renewed U)) ≤ room → file_made (table_text U) room ≡ accepted (file_of (renewed U))
older_reads_back file U checked H e room enough = printed_made U (written_read file U checked).1 H e room enough

-- TWO TABLES WITH ONE TEXT ARE ONE TABLE, but for the layout.
pub one_text : (U W : Table) → RightTable U → RightTable W → (H : Sheet) → sorted_read (table_text U) ≡ accepted H → table_text U ≡ table_text W → renewed U ≡ renewed W
one_text U W h k H e same = sym (printed_sheet U h H e).1 ∙ (printed_sheet W k H (ap sorted_read (sym same) ∙ e)).1
