-- A list of questions asked at once is answered as the questions put one by one, each on the frames and depth that the last one left.
use Rattle.std.specs.Prelude.{◌≡◌, ℕ, length}
use Rattle.std.proofs.Math.Path.{refl, ap, ap₂, sym}
use Rattle.std.proofs.Common.{◌∙◌}
use mathlib.Core.List.{List, [], ◌∷◌}
use Rattle.pcrl.specs.Result.{Result, refused, accepted, question, after}
use Rattle.pcrl.specs.Label.{Label}
use Rattle.pcrl.specs.Table.{Table}
use Rattle.pcrl.specs.Stack.{Frame, Stack, RightStack, RightFrames, right_frames?, frames_of, stack_of}
use Rattle.pcrl.specs.Steps.{StackStep}
use Rattle.pcrl.specs.Ask.{Answer, ask, ask_all}
use Rattle.pcrl.specs.Answers.{table_checked, Reply, reply, stack_read, one_answer, asked_in, asked_all_in}
use Rattle.laws.specs.Questions.{question_passes}
use Rattle.theory.specs.Lending.{Holds, passes_15, holds_right, holds_stack}
use Rattle.theory.specs.Asked.{AnswerIs, at_end, too_large, too_deep, goes_to, answer_is, still_holds}

-- what is answered to a list of questions, and the frames and depth that are left
pub record Replies : Type 0 where
  pub answers : List Answer
  pub frames : List Frame
  pub depth : ℕ

-- an answer, and what is answered after it
abbrev followed : Answer → Replies → Replies
followed a r = record { answers = a ∷ r.answers; frames = r.frames; depth = r.depth }

-- one answer as an answer among others: "those answered ended, none or 16 included"
unfoldable pub as_answer : Result Answer → Answer
as_answer (refused n) = Answer.refused n
as_answer (accepted a) = a

-- and an answer as the only one: "A refusal returns its number alone."
unfoldable pub alone : Answer → Result Answer
alone Answer.ended = accepted Answer.ended
alone Answer.nothing = accepted Answer.nothing
alone (Answer.stepped l d) = accepted (Answer.stepped l d)
alone (Answer.refused n) = refused n

pub as_answer_alone : (a : Answer) → as_answer (alone a) ≡ a
unfolding as_answer alone
as_answer_alone Answer.ended = refl
as_answer_alone Answer.nothing = refl
as_answer_alone (Answer.stepped l d) = refl
as_answer_alone (Answer.refused n) = refl

module _ (width limit : ℕ) (file : List ℕ) where
  -- "Each question gets the frames and depth that the last one left."
  unfoldable pub asked_in_turn : List Frame → ℕ → List ℕ → Replies
  asked_in_turn fs d [] = record { answers = []; frames = fs; depth = d }
  asked_in_turn fs d (k ∷ ks) =
      let r = asked_in width limit file fs d k in
      let more = asked_in_turn r.frames r.depth ks in
      record { answers = as_answer r.answer ∷ more.answers; frames = more.frames; depth = more.depth }

  module _ (T : Table) (checked : table_checked file ≡ accepted T) where
    stack_read_is : {fs : List Frame} {d : ℕ} {s : Stack} → Holds width limit T fs d s → stack_read width limit file fs d ≡ accepted (T, s)
    unfolding stack_read after
    stack_read_is {fs} {d} {s} h =
        ap (λ (r : Result Table). after r (λ U. question 15 (right_frames? width limit U fs d) (λ _. accepted (U, stack_of fs d)))) checked
        ∙ question_passes 15 (right_frames? width limit T fs d) (λ _. accepted (T, stack_of fs d)) (accepted (T, stack_of fs d)) (holds_right width limit T h) (λ _. refl)
        ∙ ap (λ (t : Stack). accepted (T, t)) (holds_stack width limit T h)

    reply_is : {fs : List Frame} {d k : ℕ} {s : Stack} {a : Answer} {t : Stack} → Holds width limit T fs d s → AnswerIs width limit T k s a t
        → reply width limit fs d (one_answer width limit (record { answer = a; stack = t })) ≡ record { answer = alone a; frames = frames_of width limit t; depth = length t }
    unfolding reply one_answer alone
    reply_is h (at_end e) = refl
    reply_is h (too_large n e) = refl
    reply_is h (too_deep e g) = λ i. record { answer = refused 16; frames = h.frames i; depth = h.depth i }
    reply_is h (goes_to e g) = refl

    -- One question on frames that hold a stack.
    pub asked_is : {fs : List Frame} {d : ℕ} {s : Stack} → Holds width limit T fs d s → (k : ℕ)
        → asked_in width limit file fs d k
        ≡ record { answer = alone (ask width limit T k s).answer; frames = frames_of width limit (ask width limit T k s).stack; depth = length (ask width limit T k s).stack }
    unfolding asked_in after
    asked_is {fs} {d} {s} h k =
        ap (λ (r : Result (Table × Stack)). reply width limit fs d (after r (λ x. one_answer width limit (ask width limit x.0 k x.1)))) (stack_read_is h)
        ∙ reply_is h (answer_is width limit T k s)

    unchanged_by : {fs : List Frame} {d k : ℕ} {s : Stack} {a : Answer} {t : Stack} → Holds width limit T fs d s → AnswerIs width limit T k s a t
        → (r : Reply Answer) → r ≡ record { answer = alone a; frames = frames_of width limit t; depth = length t }
        → ((l : Label) (n : ℕ) → r.answer ≡ accepted (Answer.stepped l n) → ⊥) → (r.frames ≡ fs) × (r.depth ≡ d)
    unfolding alone
    unchanged_by h (at_end _) r e unstepped = (ap (λ (x : Reply Answer). x.frames) e ∙ sym h.frames, ap (λ (x : Reply Answer). x.depth) e ∙ sym h.depth)
    unchanged_by h (too_large _ _) r e unstepped = (ap (λ (x : Reply Answer). x.frames) e ∙ sym h.frames, ap (λ (x : Reply Answer). x.depth) e ∙ sym h.depth)
    unchanged_by h (too_deep _ _) r e unstepped = (ap (λ (x : Reply Answer). x.frames) e ∙ sym h.frames, ap (λ (x : Reply Answer). x.depth) e ∙ sym h.depth)
    unchanged_by h (goes_to {l} {t} _ _) r e unstepped = absurd (unstepped l (length t) (ap (λ (x : Reply Answer). x.answer) e))

    -- "both with the lent frames unchanged"; "A refusal .. changes no lent byte or frame": frames and depth change only with a step.
    pub asked_unchanged : (fs : List Frame) (d : ℕ) → RightFrames width limit T fs d → (k : ℕ)
        → ((l : Label) (n : ℕ) → (asked_in width limit file fs d k).answer ≡ accepted (Answer.stepped l n) → ⊥)
        → ((asked_in width limit file fs d k).frames ≡ fs) × ((asked_in width limit file fs d k).depth ≡ d)
    asked_unchanged fs d p k unstepped =
        let h = (passes_15 width limit T fs d).0 p in
        unchanged_by h (answer_is width limit T k (stack_of fs d)) _ (asked_is h k) unstepped

    -- A list of questions on frames that hold a stack.
    pub asked_all_is : {fs : List Frame} {d : ℕ} {s : Stack} → Holds width limit T fs d s → (ks : List ℕ)
        → asked_all_in width limit file fs d ks
        ≡ record { answer = accepted (ask_all width limit T ks s).0; frames = frames_of width limit (ask_all width limit T ks s).1; depth = length (ask_all width limit T ks s).1 }
    unfolding asked_all_in after reply
    asked_all_is {fs} {d} {s} h ks = ap (λ (r : Result (Table × Stack)). reply width limit fs d (after r (λ x. accepted (ask_all width limit x.0 ks x.1)))) (stack_read_is h)

    module _ (keeps : (s : Stack) (l : Label) (t : Stack) → RightStack width T s → StackStep width T s l t → RightStack width T t) where
      in_turn_is : {fs : List Frame} {d : ℕ} {s : Stack} → Holds width limit T fs d s → (ks : List ℕ)
          → asked_in_turn fs d ks ≡ record { answers = (ask_all width limit T ks s).0; frames = frames_of width limit (ask_all width limit T ks s).1; depth = length (ask_all width limit T ks s).1 }
      unfolding asked_in_turn ask_all
      in_turn_is h [] = λ i. record { answers = []; frames = h.frames i; depth = h.depth i }
      in_turn_is {fs} {d} {s} h (k ∷ ks) =
          ap (λ (r : Reply Answer). followed (as_answer r.answer) (asked_in_turn r.frames r.depth ks)) (asked_is h k)
          ∙ ap₂ followed (as_answer_alone (ask width limit T k s).answer) (in_turn_is {fs = frames_of width limit (ask width limit T k s).stack} {d = length (ask width limit T k s).stack} {s = (ask width limit T k s).stack} (still_holds width limit T keeps h (answer_is width limit T k s)) ks)

      -- Asking a list at once is asking one by one.
      pub at_once_is_in_turn : (fs : List Frame) (d : ℕ) → RightFrames width limit T fs d → (ks : List ℕ)
          → asked_all_in width limit file fs d ks
          ≡ record { answer = accepted (asked_in_turn fs d ks).answers; frames = (asked_in_turn fs d ks).frames; depth = (asked_in_turn fs d ks).depth }
      at_once_is_in_turn fs d r ks =
          let h = (passes_15 width limit T fs d).0 r in
          asked_all_is h ks ∙ ap (λ (x : Replies). record { answer = accepted x.answers; frames = x.frames; depth = x.depth }) (sym (in_turn_is h ks))
