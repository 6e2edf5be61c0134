-- Which tables have a text: question 17 fails exactly for those that do not fit.
use Rattle.std.specs.Prelude.{◌≡◌, refl, List, ◌↔◌, ◌≤◌, T, length, drop}
use Rattle.std.proofs.Common.{ap, sym, subst, ◌∙◌, arith, length-drop}
use Rattle.std.proofs.Math.Option.{none, some, none-ne-some}
use Rattle.std.proofs.lemmas.List.{length-map}
use Rattle.pcrl.specs.Limits.{max_size, max_processes}
use Rattle.pcrl.specs.Result.{Result, refused, accepted, passed}
use Rattle.pcrl.specs.Tests.{distinct, Between, Every}
use Rattle.pcrl.specs.Bytes.{Short, short?, printable?}
use Rattle.pcrl.specs.Tokens.{Token, tokens, Shallow, shallow?}
use Rattle.pcrl.specs.Counts.{Counted}
use Rattle.pcrl.specs.Sheet.{Sheet}
use Rattle.pcrl.specs.Table.{Table}
use Rattle.pcrl.specs.Right.{RightSizes, RightSig, RightTable}
use Rattle.pcrl.specs.Print.{print_sheet}
use Rattle.pcrl.specs.Printer.{taken, sort_line_of, func_line_of, act_line_of, param_of, proc_line_of, printed, table_text}
use Rattle.pcrl.specs.Render.{render}
use Rattle.pcrl.specs.Answers.{tokens_read, tree_read, sorted_read}
use Rattle.laws.specs.Questions.{past_question, past_question_of, past_answer}
use Rattle.laws.specs.Every.{every_weaken, every_both, every_drop}
use Rattle.grammar.proofs.Printed.{parse_print}
use Rattle.grammar.proofs.Rendered.{tokens_render}
use Rattle.theory.specs.Questions.{resolved_all, all_resolved}
use Rattle.printing.specs.SpelledTokens.{spelled_valid, spelled_tokens, ShortName, short_valid, valid_short}
use Rattle.printing.specs.Plain.{PlainEquation, PlainTable, right_plain}
use Rattle.printing.specs.NumberedLaws.{every_numbered, length_numbered}
use Rattle.printing.specs.PrintedSpelled.{printed_spelled}
use Rattle.printing.specs.PrintedFormed.{printed_formed}
use Rattle.printing.specs.PrintableText.{text_printable}
use Rattle.printing.specs.ResolvedSheet.{printed_resolves}
use Rattle.printing.specs.Sided.{table_retold}
use Rattle.printing.specs.Linear.{linear_sheet}
use Rattle.printing.specs.LinearSorted.{linear_sorted}
use Rattle.printing.specs.ReadBack.{text_tree, text_free, text_sided}
use Rattle.printing.specs.Watched.{apart}
use Rattle.printing.specs.WatchedSheet.{tokens_sided}
use Rattle.printing.specs.TextFits.{Fits}

-- question 6: all other counts are those of a right table
counted_printed : (U : Table) → PlainTable U → length U.equations ≤ max_processes → Counted (printed U)
unfolding Counted printed sort_line_of proc_line_of RightSig RightSizes
counted_printed U plain few =
    let sig = plain.signature in
    let S = U.sig in
    let sorts = U.sig.sorts in
    let s = length_numbered (sort_line_of S) 1 (drop 1 sorts) in
    let d = length-drop 1 sorts in
    let f = length_numbered (func_line_of S) 0 U.sig.funcs in
    let a = length-map S.acts (act_line_of S) in
    let p = length_numbered (proc_line_of S) 0 U.equations in
    let many_sorts = sig.0.0.0 in
    let many_funcs = sig.1.0.0 in
    let many_acts = sig.1.1.0.0 in (
      omega arith,
      (
        every_numbered (Between 1 max_size) _ (sort_line_of S) 1 (drop 1 sorts) (λ D n w h. h) (every_drop _ 1 sorts sig.0.0.1),
        (
          omega arith,
          (
            omega arith,
            (
              omega arith,
              every_numbered (PlainEquation U) _ (proc_line_of S) 0 U.equations (λ e q w h. let n = length_numbered (param_of S) 0 q.params in let l = h.few in omega arith) plain.equations,
            ),
          ),
        ),
      ),
    )

-- A TABLE THAT FITS HAS A TEXT THAT PASSES,
pub fits_passes : (U : Table) → RightTable U → Fits U → sorted_read (table_text U) ≡ accepted (linear_sheet U)
unfolding table_text
fits_passes U right fits =
    let plain = right_plain U right in
    let spelled = printed_spelled U plain in
    all_resolved (table_text U) (linear_sheet U) (record {
      short = fits.short;
      printable = text_printable (print_sheet (printed U)) spelled;
      found = print_sheet (printed U);
      all_tokens = tokens_render (print_sheet (printed U)) (every_both _ _ _ short_valid (print_sheet (printed U)) spelled fits.names);
      shallow = fits.shallow;
      raw = printed U;
      form = parse_print (printed U) (printed_formed U plain);
      counted = counted_printed U plain fits.few;
      resolved = printed_resolves U plain fits.free ∙ ap (λ (W : Table). some (linear_sheet W)) (table_retold U fits.no_two_values);
      rightly_sorted = linear_sorted U right;
    })

-- AND ONE WHOSE TEXT PASSES FITS.
pub passes_fits : (U : Table) → RightTable U → (H : Sheet) → sorted_read (table_text U) ≡ accepted H → Fits U
unfolding table_text Counted printed
passes_fits U right H e =
    let plain = right_plain U right in
    let r = resolved_all (table_text U) H e in
    let ts = print_sheet (printed U) in
    let valid = spelled_valid ts r.found (printed_spelled U plain) r.all_tokens in
    let same = spelled_tokens ts r.found (printed_spelled U plain) r.all_tokens in
    let c : Counted (printed U) = subst Counted (text_tree U plain H r) r.counted in
    let p = length_numbered (proc_line_of U.sig) 0 U.equations in
    let few = c.1.1.1.1.0 in
    record { short = r.short; names = every_weaken _ _ valid_short ts valid; shallow = subst Shallow same r.shallow; few = omega arith; free = text_free U plain H r; no_two_values = text_sided U plain H r }

-- what questions 1 to 4 say of a table's text: its tokens are those of the printed sheet
record TokensRead (U : Table) (ts : List Token) : Type 0 where
  are : ts ≡ print_sheet (printed U)
  short : Short (table_text U)
  names : Every ShortName (print_sheet (printed U))
  shallow : Shallow (print_sheet (printed U))

tokens_as_printed : (U : Table) → RightTable U → (ts : List Token) → tokens_read (table_text U) ≡ accepted ts → TokensRead U ts
unfolding table_text tokens_read
tokens_as_printed U right ts e =
    let us = print_sheet (printed U) in
    let spelled = printed_spelled U (right_plain U right) in
    past_question 1 (short? (render us)) _ ts e (λ h₁ e₁.
    past_question 2 (printable? (render us)) _ ts e₁ (λ h₂ e₂.
    past_question_of 3 (tokens (render us)) _ ts e₂ (λ vs h₃ e₃.
    past_question 4 (shallow? vs) _ ts e₃ (λ h₄ e₄.
    let same = spelled_tokens us vs spelled h₃ in
    let given : ts ≡ vs = cc in
    record { are = given ∙ same; short = h₁; names = every_weaken _ _ valid_short us (spelled_valid us vs spelled h₃); shallow = subst Shallow same h₄ }))))

-- A TABLE OF FEW EQUATIONS, WITH NO SORT NAMED LIKE AN ACTION, FITS WHOSE TEXT PASSES QUESTIONS 1 TO 4, WITH NO `==` BETWEEN TWO NUMERALS AMONG ITS TOKENS,
pub tokens_fit : (U : Table) → RightTable U → (ts : List Token) → tokens_read (table_text U) ≡ accepted ts → T (apart ts) → length U.equations ≤ max_processes → T (distinct (taken U.sig)) → Fits U
tokens_fit U right ts e h few free =
    let r = tokens_as_printed U right ts e in
    let sided = (tokens_sided U (right_plain U right)).0 (subst (λ (us : List Token). T (apart us)) r.are h) in
    record { short = r.short; names = r.names; shallow = r.shallow; few = few; free = free; no_two_values = sided }

-- and of one that fits they pass, and there is none.
pub fits_tokens : (U : Table) → RightTable U → Fits U → (ts : List Token) × ((tokens_read (table_text U) ≡ accepted ts) × T (apart ts))
unfolding sorted_read tree_read
fits_tokens U right fits =
    past_answer (tree_read (table_text U)) _ (linear_sheet U) (fits_passes U right fits) (λ R e₅ e.
    past_answer (tokens_read (table_text U)) _ R e₅ (λ ts e₄ e.
    let same = (tokens_as_printed U right ts e₄).are in
    (ts, (e₄, subst (λ (us : List Token). T (apart us)) (sym same) ((tokens_sided U (right_plain U right)).1 fits.no_two_values)))))

-- QUESTION 17 FAILS EXACTLY FOR THE TABLES THAT DO NOT FIT.
pub seventeen_exactly : (U : Table) → RightTable U → (passed (sorted_read (table_text U)) ≡ none) ↔ ¬ (Fits U)
unfolding passed
seventeen_exactly U right = (λ e fits. none-ne-some (linear_sheet U) (sym e ∙ ap passed (fits_passes U right fits)), λ h. go (sorted_read (table_text U)) refl h)
  where
    go : (r : Result Sheet) → sorted_read (table_text U) ≡ r → ¬ (Fits U) → passed r ≡ none
    go (refused n) e h = refl
    go (accepted H) e h = absurd (h (passes_fits U right H e))
