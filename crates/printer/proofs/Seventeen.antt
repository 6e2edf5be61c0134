-- Questions 17 and 11 on a text of which only so much is at hand as a sheet may have and one byte more.
use mathlib.Core.Path.{◌≡◌, refl, sym, ap, ap₂, subst, ◌∙◌}
use mathlib.Core.List.{List, ◌++◌}
use mathlib.Core.Option.{Option}
use Prim.Native.Nat.{ℕ, ◌+◌, ◌≤◌, ◌<◌, min}
use native.Mathlib.Omega.{arith}
use lib.Dec.{T}
use lib.ListN.{length, take, drop, length-take, take-append-drop}
use lib.Seq.{take_all}
use Rattle.pcrl.specs.Limits.{max_bytes, max_processes}
use Rattle.pcrl.specs.Result.{Result, refused, accepted, question, question_of, after, passed}
use Rattle.pcrl.specs.Sheet.{Sheet}
use Rattle.pcrl.specs.Table.{Table}
use Rattle.pcrl.specs.Right.{RightTable}
use Rattle.pcrl.specs.Blocks.{Room, room?}
use Rattle.pcrl.specs.Tests.{distinct}
use Rattle.pcrl.specs.Printer.{taken, table_text}
use Rattle.pcrl.specs.Answers.{sorted_read, output_after, text_printed, table_checked, table_printed}
use Rattle.laws.specs.Questions.{question_passes, question_fails, question_of_passes}
use Rattle.printing.specs.Linear.{linear_sheet}
use Rattle.printing.specs.TextFits.{Fits}
use Rattle.printing.proofs.TextFits.{fits_passes, tokens_fit, fits_tokens, seventeen_exactly}
use Rattle.std.specs.Prelude as R
use Rattle.std.specs.Prelude.{Ok, Err}
use borrow.Rule.Slice.PartMut.{put_mid}
use Rattle.std.proofs.lemmas.Slice.{put_mid-paste}
use Rattle.refusals.specs.declared.Refusal.{Refusal}
use Rattle.refusals.specs.Numbers.{number_of}
use Rattle.refusals.specs.Answered.{Answered}
use Rattle.texts.specs.Wrote.{Wrote}
use Rattle.printer.specs.Printing.{text_room, TokensApart, Prints}

-- both that the answer and the output are those of a result
abbrev pub Delivered : Result (List ℕ) → List ℕ → R.Result ℕ Refusal → List ℕ → Type 0
Delivered x out r out' = Prints x r × (out' ≡ output_after x out)

pub delivered_refused : (x : Result (List ℕ)) (out : List ℕ) (e : Refusal) → x ≡ refused (number_of e) → Delivered x out (Err e) out
unfolding Answered output_after
delivered_refused x out e h = rw h (refl, refl)

pub delivered_text : (x : Result (List ℕ)) (text out out' : List ℕ) (n : ℕ) → x ≡ accepted text → n ≡ length text → out' ≡ text ++ drop (length text) out → Delivered x out (Ok n) out'
unfolding Answered output_after
delivered_text x text out out' n h e g = rw h (e, g)

-- a piece that was written over the front
pub wrote_front : (out p out' : List ℕ) (r : ℕ) → Wrote out 0 p out' r → length p ≤ length out → out' ≡ p ++ drop (length p) out
wrote_front out p out' r w h =
    let place : r ≡ length p = let z = w.place in omega arith in
    sym (take-append-drop r out') ∙ (let front : take r out' ≡ p = w.text ∙ take_all (length out) p h in ap (λ (l : List ℕ). l ++ drop r out') front) ∙ ap (λ (l : List ℕ). p ++ l) (w.rest ∙ ap (λ (k : ℕ). drop k out) place)

-- a text that was copied over the front
pub copied_front : (out p ys : List ℕ) (k : ℕ) → k ≡ length p → length p ≤ length out → ys ≡ p → put_mid 0 k out ys ≡ p ++ drop (length p) out
copied_front out p ys k e h f =
    put_mid-paste 0 k out ys p (length p) f (sym e) refl
    ∙ ap₂ (λ (l : List ℕ) (n : ℕ). l ++ drop n out) (take_all (length p) p (omega arith)) (let z : 0 + length p ≡ length p = omega arith in z)

module _ (U : Table) (right : RightTable U) (room : ℕ) where
  -- a table that does not fit
  pub unfit : ¬ (Fits U) → text_printed U room ≡ refused 17
  unfolding text_printed question_of
  unfit h = ap (λ (o : Option Sheet). question_of 17 o (λ _. question 11 (room? (table_text U) room) (λ _. accepted (table_text U)))) ((seventeen_exactly U right).1 h)

  pub not_free : ¬ (T (distinct (taken U.sig))) → text_printed U room ≡ refused 17
  not_free lacks = unfit (λ fits. lacks fits.free)

  -- one that fits, and no room for it, or room enough
  pub no_room : Fits U → room < length (table_text U) → text_printed U room ≡ refused 11
  unfolding text_printed Room passed
  no_room fits h = question_of_passes 17 (passed (sorted_read (table_text U))) _ (linear_sheet U) (ap passed (fits_passes U right fits)) ∙ question_fails 11 (room? (table_text U) room) _ (λ k. omega arith)

  pub some_room : Fits U → length (table_text U) ≤ room → text_printed U room ≡ accepted (table_text U)
  unfolding text_printed Room passed
  some_room fits h = question_of_passes 17 (passed (sorted_read (table_text U))) _ (linear_sheet U) (ap passed (fits_passes U right fits)) ∙ question_passes 11 (room? (table_text U) room) _ _ h (λ _. refl)

  module _ (text : List ℕ) (front : text ≡ take text_room (table_text U)) where
    long_text : length text ≡ min text_room (length (table_text U))
    long_text = ap length front ∙ length-take text_room (table_text U)

    pub whole : length text ≤ max_bytes → text ≡ table_text U
    whole h = front ∙ take_all text_room (table_text U) (let z = long_text in omega arith)

    pub too_long : max_bytes < length text → text_printed U room ≡ refused 17
    too_long h = unfit (λ fits. let short = fits.short in let z = long_text in omega arith)

    pub too_many : max_processes < length U.equations → text_printed U room ≡ refused 17
    too_many h = unfit (λ fits. let few = fits.few in omega arith)

    pub not_apart : length text ≤ max_bytes → ¬ (TokensApart text) → text_printed U room ≡ refused 17
    not_apart h lacks = unfit (λ fits. lacks (subst TokensApart (sym (whole h)) (fits_tokens U right fits)))

    pub fit : length text ≤ max_bytes → TokensApart text → length U.equations ≤ max_processes → T (distinct (taken U.sig)) → Fits U
    fit h has few free = let (ts, both) = subst TokensApart (whole h) has in tokens_fit U right ts both.0 both.1 few free

-- the whole operation, from the table's own
pub printed_refused : (file : List ℕ) (room n : ℕ) → table_checked file ≡ refused n → table_printed file room ≡ refused n
unfolding table_printed after
printed_refused file room n e = rw e

pub printed_checked : (file : List ℕ) (room : ℕ) (U : Table) → table_checked file ≡ accepted U → table_printed file room ≡ text_printed U room
unfolding table_printed after
printed_checked file room U e = rw e

pub delivered_as : (file out : List ℕ) (U : Table) (r : R.Result ℕ Refusal) (out' : List ℕ) → table_checked file ≡ accepted U → Delivered (text_printed U (length out)) out r out' → Delivered (table_printed file (length out)) out r out'
delivered_as file out U r out' e d = subst (λ (x : Result (List ℕ)). Delivered x out r out') (sym (printed_checked file (length out) U e)) d
