-- Questions 1 to 7: what the lexer, the parser, the counts and the resolver answer, of the whole.
use mathlib.Core.Path.{◌≡◌, refl, sym, ap, subst, subst⁻¹, ◌∙◌}
use mathlib.Core.List.{List, map}
use mathlib.Core.Option.{Option, none, some}
use Prim.Native.Nat.{ℕ, ◌≤◌, ◌<◌}
use native.Mathlib.Omega.{arith}
use lib.ListN.{length, take, length-append, length-drop}
use Rattle.pcrl.specs.Result.{Result, refused, accepted, question, question_of, after}
use Rattle.pcrl.specs.Tokens.{Token}
use Rattle.pcrl.specs.Tree.{RawSheet}
use Rattle.pcrl.specs.Sheet.{Sheet}
use Rattle.pcrl.specs.Grammar.{parse}
use Rattle.pcrl.specs.Counts.{Counted, counted?}
use Rattle.pcrl.specs.Names.{resolve}
use Rattle.pcrl.specs.Tests.{T?}
use Rattle.pcrl.specs.Sorts.{rightly_sorted?}
use Rattle.pcrl.specs.Circles.{guarded}
use Rattle.pcrl.specs.Answers.{tokens_read, tree_read, sorted_read, sheet_read}
use Rattle.laws.specs.Questions.{question_passes, question_fails, question_of_passes, past_question}
use Rattle.lexer.specs.Cells.{cell_token, Lexes}
use Rattle.std.specs.Prelude.{Option as Given, Ok, Err, None, Some}
use Rattle.std.specs.Option.{ok_or}
use Rattle.refusals.specs.declared.Refusal.{Refusal}
use Rattle.refusals.specs.Numbers.{number_of}
use Rattle.refusals.specs.Answered.{Answered}
use Rattle.lexer.proofs.Accepted.{accepted_cells, refused_number}
use Rattle.parser.specs.Parses.{Parses}
use Rattle.parser.specs.Cells.{enc_init, enc_sheet}
use Rattle.parser.specs.declared.Lines.{Lines}
use Rattle.parser.specs.declared.Parsed.{Parsed}
use Rattle.parser.proofs.Answered.{tree_of, none_of}
use Rattle.nodes.specs.Layout.{cell_limit}
use Rattle.nodes.specs.Held.{Held}
use Rattle.names.specs.Standing.{Standing, At}
use Rattle.names.proofs.Trees.{standing, further}
use Rattle.sheets.specs.Bounded.{Bounded, bounded}
use Rattle.sheets.specs.declared.SheetRows.{SheetRows}
use Rattle.sheets.specs.Resolving.{FewFound, Holds}
use Rattle.sheets.specs.Reading.{judged, Reads}

-- questions 6 to 9 of a raw sheet
abbrev pub from_tree : RawSheet → Result Sheet
from_tree R = question 6 (counted? R) (λ _. question_of 7 (resolve R) (λ H. judged H))

-- questions 6 to 8 of a raw sheet, and 9 of a resolved one
abbrev to_eight : RawSheet → Result Sheet
to_eight R = question 6 (counted? R) (λ _. question_of 7 (resolve R) (λ H. question 8 (rightly_sorted? H) (λ _. accepted H)))

abbrev nine : Sheet → Result Sheet
nine H = question 9 (T? (guarded H)) (λ _. accepted H)

-- 9 may as well be put inside 6 to 8
nine_inside : (R : RawSheet) → after (to_eight R) nine ≡ from_tree R
unfolding after question question_of judged
nine_inside R = at_six (counted? R) (resolve R)
  where
    at_eight : {P : Type 0} (H : Sheet) (d : Dec P) → after (question 8 d (λ _. accepted H)) nine ≡ question 8 d (λ _. nine H)
    at_eight H (yes h) = refl
    at_eight H (no h) = refl

    at_six : {P : Type 0} (d : Dec P) (o : Option Sheet) → after (question 6 d (λ _. question_of 7 o (λ H. question 8 (rightly_sorted? H) (λ _. accepted H)))) nine ≡ question 6 d (λ _. question_of 7 o (λ H. judged H))
    at_six (no h) o = refl
    at_six (yes h) none = refl
    at_six (yes h) (some H) = at_eight H (rightly_sorted? H)

module _ (s : List ℕ) where
  -- the answer, where that of questions 1 to 5 is x
  from_answer : (x : Result RawSheet) → tree_read s ≡ x → sheet_read s ≡ after (after x to_eight) nine
  unfolding sheet_read sorted_read
  from_answer x e = ap (λ (y : Result RawSheet). after (after y to_eight) nine) e

  -- refused by 1 to 4
  pub no_tokens : (n : ℕ) → tokens_read s ≡ refused n → sheet_read s ≡ refused n
  unfolding tree_read after
  no_tokens n e = from_answer (refused n) (rw e)

  -- by 5
  pub no_tree : (ts : List Token) → tokens_read s ≡ accepted ts → parse ts ≡ none → sheet_read s ≡ refused 5
  unfolding tree_read after question_of
  no_tree ts e f = from_answer (refused 5) (rw (e, f))

  pub with_tree : (ts : List Token) (R : RawSheet) → tokens_read s ≡ accepted ts → parse ts ≡ some R → sheet_read s ≡ from_tree R
  unfolding tree_read after question_of
  with_tree ts R e f = from_answer (accepted R) (rw (e, f)) ∙ nine_inside R

  module _ (toks : List ℕ) where
    pub refused_early : (r : Refusal) → Lexes (tokens_read s) s (Err r) toks → sheet_read s ≡ refused (number_of r)
    refused_early r h = no_tokens (number_of r) (refused_number s toks r h)

    -- the answer of the parser for the tokens of a sheet that is not refused by 1 to 4
    module _ (n : ℕ) (lexes : Lexes (tokens_read s) s (Ok n) toks) (raw : List ℕ) where
      pub refused_5 : Parses (parse (map (cell_token s) (take n toks))) s None raw → sheet_read s ≡ refused 5
      refused_5 parses =
          let a = accepted_cells s toks n lexes in
          no_tree a.tokens a.read (ap parse (sym a.cells) ∙ none_of (parse (map (cell_token s) (take n toks))) s raw parses)

      module _ (p : Parsed) where
        -- the tree of a sheet that is not refused by 1 to 5, where it stands, and how large it is
        pub record Parsable : Type 0 where
          pub sheet : RawSheet
          pub answer : sheet_read s ≡ from_tree sheet
          pub lines : Standing s raw p.lines sheet
          pub init : At s raw (enc_init sheet.start) p.lines.init
          pub inside : p.lines.init < length raw
          pub bounds : Bounded sheet n

        pub parsable : Parses (parse (map (cell_token s) (take n toks))) s (Some p) raw → Parsable
        unfolding enc_init
        parsable parses =
            let a = accepted_cells s toks n lexes in
            let (R, f, t) = tree_of (parse (map (cell_token s) (take n toks))) s p raw parses in
            let g : parse a.tokens ≡ some R = ap parse (sym a.cells) ∙ f in
            let some_cell : 1 ≤ length (enc_init R.start) = omega arith in
            let h = t.init in
            record {
              sheet = R;
              answer = with_tree a.tokens R a.read g;
              lines = standing s R p raw t;
              init = further s raw p.used p.lines.init (enc_sheet R) (enc_init R.start) t.tree some_cell h;
              inside = omega (arith, t.used, t.room, length-drop p.lines.init (enc_sheet R), ap length h.1, length-append (enc_init R.start) h.0);
              bounds = subst (Bounded R) (sym a.count) (bounded s a.tokens R a.read g);
            }

-- refused by 6
pub refused_6 : (s : List ℕ) (R : RawSheet) → sheet_read s ≡ from_tree R → (Counted R → ⊥) → sheet_read s ≡ refused 6
refused_6 s R e h = e ∙ question_fails 6 (counted? R) _ h

-- by 7
pub refused_7 : (s : List ℕ) (R : RawSheet) → sheet_read s ≡ from_tree R → Counted R → resolve R ≡ none → sheet_read s ≡ refused 7
unfolding question_of
refused_7 s R e h f = e ∙ question_passes 6 (counted? R) _ (refused 7) h (λ _. rw f)

pub with_sheet : (s : List ℕ) (R : RawSheet) (H : Sheet) → sheet_read s ≡ from_tree R → Counted R → resolve R ≡ some H → sheet_read s ≡ judged H
with_sheet s R H e h f = e ∙ question_passes 6 (counted? R) _ (judged H) h (λ _. question_of_passes 7 (resolve R) _ H f)

-- the error that is given for none
pub given_error : {A E : Type 0} (o : Given A) (d e : E) → o ≡ None → Err d ≡ ok_or o e → d ≡ e
given_error None d e n h = cc
given_error (Some a) d e n h = absurd (cc)

-- ---- the answer
module _ (s values cells : List ℕ) where
  pub refused_by : (r : Refusal) → sheet_read s ≡ refused (number_of r) → Reads (sheet_read s) s (Err r) values cells
  unfolding Answered
  refused_by r e = rw e refl

  -- what is accepted by 8 and 9 is the sheet that they were put to
  judged_same : (H K : Sheet) → judged H ≡ accepted K → H ≡ K
  unfolding judged
  judged_same H K e =
      past_question 8 (rightly_sorted? H) _ K e (λ h₈ e₈.
      past_question 9 (T? (guarded H)) _ K e₈ (λ h₉ e₉. let z : H ≡ K = cc in z))

  module _ (B : Type 0) (H : Sheet) (e : sheet_read s ≡ judged H) where
    pub judged_refused : (r : Refusal) → Answered {B = B} (λ K b. Unit {0}) (judged H) (Err r) → Reads (sheet_read s) s (Err r) values cells
    unfolding Answered
    judged_refused r h = rw e (go (judged H) h)
      where
        go : (x : Result Sheet) → Answered {B = B} (λ K b. Unit {0}) x (Err r) → Reads x s (Err r) values cells
        go (refused n) m = m
        go (accepted K) m = absurd m

    pub judged_accepted : (b : B) (rows : SheetRows) → Answered (λ K b. Unit {0}) (judged H) (Ok b) → Holds s values cells H rows → Reads (sheet_read s) s (Ok rows) values cells
    unfolding Answered
    judged_accepted b rows h held = rw e (go (judged H) refl h)
      where
        go : (x : Result Sheet) → judged H ≡ x → Answered (λ K b. Unit {0}) x (Ok b) → Reads x s (Ok rows) values cells
        go (refused n) f m = absurd m
        go (accepted K) f m = subst (λ (J : Sheet). Holds s values cells J rows) (judged_same H K f) held

-- so few lines as are counted
pub few_found : (s raw : List ℕ) (L : Lines) (R : RawSheet) → length raw < cell_limit → L.init < length raw → Standing s raw L R → Counted R → FewFound L raw
unfolding Counted
few_found s raw L R h i st k = record {
  raw_few = h;
  sorts_few = omega (arith, st.sort_count, k.0);
  funcs_few = omega (arith, st.func_count, k.1.1.0);
  acts_few = omega (arith, st.act_count, k.1.1.1.0);
  procs_few = omega (arith, st.proc_count, k.1.1.1.1.0);
  init_inside = i;
}
