-- Questions put in turn from a stack get, one after another, the answers of document 01, and the labels answered are those of a run of the stack.
use Rattle.std.specs.Prelude.{◌≡◌, ℕ, ◌≤◌, length}
use Rattle.std.proofs.Math.Path.{refl, ap}
use Rattle.std.proofs.Common.{◌∙◌}
use mathlib.Core.List.{List, [], ◌∷◌}
use Rattle.pcrl.specs.Sheet.{Sheet}
use Rattle.pcrl.specs.Label.{Label}
use Rattle.pcrl.specs.Table.{Table}
use Rattle.pcrl.specs.Stack.{Stack, RightStack}
use Rattle.pcrl.specs.Steps.{StackStep}
use Rattle.pcrl.specs.Ask.{Answer, Asked, ask, ask_all, labels}
use Rattle.pcrl.specs.Equality.{Run, stay, go}
use Rattle.pcrl.specs.States.{of_stack, StateStep, system}
use Rattle.theory.specs.Listing.{listed_steps}
use Rattle.theory.specs.Asked.{AnswerIs, at_end, too_large, too_deep, goes_to, answer_is, answer_exactly, answer_right, answer_fits}

module _ (width limit : ℕ) (T : Table) where
  -- The questions, put in turn from a stack, get the answers, and leave a stack in the end.
  -- Each answer, and the stack that it leaves, is the one that document 01 says; that stack is right and fits.
  pub data AnswersAre : Stack → List ℕ → List Answer → Stack → Type 0 where
    no_more : {s : Stack} → AnswersAre s [] [] s
    and_then : {s t u : Stack} {k : ℕ} {ks : List ℕ} {a : Answer} {more : List Answer}
        → AnswerIs width limit T k s a t → RightStack width T t → length t ≤ limit → AnswersAre t ks more u → AnswersAre s (k ∷ ks) (a ∷ more) u

  -- the stack left in the end is right and fits
  pub last_right : {s t : Stack} {ks : List ℕ} {answers : List Answer} → AnswersAre s ks answers t → RightStack width T s → RightStack width T t
  last_right no_more r = r
  last_right (and_then a r f more) r₀ = last_right more r

  pub last_fits : {s t : Stack} {ks : List ℕ} {answers : List Answer} → AnswersAre s ks answers t → length s ≤ limit → length t ≤ limit
  last_fits no_more f = f
  last_fits (and_then a r f more) f₀ = last_fits more f

  -- `ask-all` gives these answers
  pub answers_are : ((s : Stack) (l : Label) (t : Stack) → RightStack width T s → StackStep width T s l t → RightStack width T t)
      → (ks : List ℕ) (s : Stack) → RightStack width T s → length s ≤ limit → AnswersAre s ks (ask_all width limit T ks s).0 (ask_all width limit T ks s).1
  unfolding ask_all
  answers_are keeps [] s r f = no_more
  answers_are keeps (k ∷ ks) s r f =
      let a = answer_is width limit T k s in
      let r' = answer_right width limit T keeps a r in
      let f' = answer_fits width limit T a f in
      and_then a r' f' (answers_are keeps ks (ask width limit T k s).stack r' f')

  -- and no others are right
  pub only_answers : {s t : Stack} {ks : List ℕ} {answers : List Answer} → AnswersAre s ks answers t → ask_all width limit T ks s ≡ (answers, t)
  unfolding ask_all
  only_answers no_more = refl
  only_answers (and_then {s} {k = k} {ks} {a} {more} h r f rest) =
      ap (λ (x : Asked). let y = ask_all width limit T ks x.stack in (x.answer ∷ y.0, y.1)) ((answer_exactly width limit T k s _ _).1 h)
      ∙ ap (λ (y : List Answer × Stack). (a ∷ y.0, y.1)) (only_answers rest)

  -- the labels answered are those of a run from the first stack to the last
  pub answers_run : (H : Sheet) {s t : Stack} {ks : List ℕ} {answers : List Answer} → AnswersAre s ks answers t → Run (system width H T) (of_stack s) (labels answers) (of_stack t)
  unfolding labels StateStep
  answers_run H no_more = stay
  answers_run H (and_then (at_end e) r f more) = answers_run H more
  answers_run H (and_then (too_large n e) r f more) = answers_run H more
  answers_run H (and_then (too_deep e d) r f more) = answers_run H more
  answers_run H (and_then {s} {k = k} (goes_to {l} {t} e d) r f more) = go (listed_steps width T s k l t e) (answers_run H more)
