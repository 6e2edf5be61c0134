-- Demand 3, its last sentence, about every list of step questions put in turn: over the definition, over calls that keep their promise, and on the file of a sheet.
-- The answers give a run of the first stack, and a run of a stack is one of the term that it stands for.
use Rattle.std.specs.Prelude.{◌≡◌, List, ℕ, ◌≤◌, length}
use Rattle.std.proofs.Common.{sym, subst₂, arith}
use Rattle.pcrl.specs.Limits.{frame_width, stack_limit}
use Rattle.pcrl.specs.Result.{accepted}
use Rattle.pcrl.specs.Sheet.{Sheet}
use Rattle.pcrl.specs.Label.{Label}
use Rattle.pcrl.specs.Heads.{table_of}
use Rattle.pcrl.specs.Right.{Within}
use Rattle.pcrl.specs.Stack.{Frame, Stack, RightStack, RightFrames, stack_of}
use Rattle.pcrl.specs.Steps.{StackStep}
use Rattle.pcrl.specs.Ask.{Answer, ask_all, labels}
use Rattle.pcrl.specs.Equality.{Equal, Run}
use Rattle.pcrl.specs.States.{State, of_stack, system, stands_for}
use Rattle.pcrl.specs.Answers.{asked_all}
use Rattle.theory.specs.Standing.{Standing}
use Rattle.theory.proofs.TableRight.{table_right}
use Rattle.theory.specs.StepRight.{step_right}
use Rattle.theory.proofs.StandsFor.{run_stands_for}
use Rattle.theory.specs.Written.{WrittenFor}
use Rattle.theory.specs.Lending.{passes_15, holds_right, holds_stack}
use Rattle.theory.specs.InTurn.{asked_in_turn, at_once_is_in_turn}
use Rattle.theory.specs.AnswersAre.{AnswersAre, answers_are, answers_run, last_right, last_fits}
use Rattle.theory.specs.Calls.{Calls, calls_hold, calls_in_turn}

module _ (width limit : ℕ) (H : Sheet) where
  -- The questions ks, put in turn from the stack s, got the answers and left the stack t.
  pub record LastSentence (s : Stack) (ks : List ℕ) (answers : List Answer) (t : Stack) : Type 0 where
    -- "each answer, and the stack it leaves, is the one document 01's steps give, with 16 exactly where the next stack passes 64 frames"
    pub each : AnswersAre width limit (table_of H) s ks answers t
    pub right : RightStack width (table_of H) t
    pub fits : length t ≤ limit
    -- "the labels answered, in order, are those of a run from the term the first stack stands for to a state"
    pub end : State
    pub run : Run (system width H (table_of H)) (stands_for H (of_stack s)) (labels answers) end
    -- "that is equal to n steps, for every n, to the last stack"
    pub equal : (n : ℕ) → Equal (system width H (table_of H)) (system width H (table_of H)) n end (of_stack t)

  -- The same of lent frames: fs, of which d are used, before the questions, and fs', of which d' are used, after them.
  pub record LastSentenceOn (fs : List Frame) (d : ℕ) (ks : List ℕ) (answers : List Answer) (fs' : List Frame) (d' : ℕ) : Type 0 where
    pub passes_15_again : RightFrames width limit (table_of H) fs' d'
    pub claim : LastSentence (stack_of fs d) ks answers (stack_of fs' d')

  module _ (ok : Standing H) (within : Within (table_of H)) where
    keeps : (s : Stack) (l : Label) (t : Stack) → RightStack width (table_of H) s → StackStep width (table_of H) s l t → RightStack width (table_of H) t
    keeps = step_right (table_of H) (table_right H ok within) width

    -- THE LAST SENTENCE, over the definition: from any right stack that fits.
    pub last_sentence : (s : Stack) → RightStack width (table_of H) s → length s ≤ limit → (ks : List ℕ)
        → LastSentence s ks (ask_all width limit (table_of H) ks s).0 (ask_all width limit (table_of H) ks s).1
    last_sentence s r f ks =
        let a = answers_are width limit (table_of H) keeps ks s r f in
        let (u, q, e) = run_stands_for width H ok s r (answers_run width limit (table_of H) H a) in
        record { each = a; right = last_right width limit (table_of H) a r; fits = last_fits width limit (table_of H) a f; end = u; run = q; equal = e }

    -- THE LAST SENTENCE, over calls in turn, each of which keeps the promise of a stepping program: from any frames that pass 15.
    pub last_sentence_of_calls : {fs fs' : List Frame} {d d' : ℕ} {ks : List ℕ} {answers : List Answer} → RightFrames width limit (table_of H) fs d
        → Calls width limit (table_of H) fs d ks answers fs' d' → LastSentenceOn fs d ks answers fs' d'
    last_sentence_of_calls {fs} {fs'} {d} {d'} {ks} {answers} p c =
        let h = (passes_15 width limit (table_of H) fs d).0 p in
        let (e, h') = calls_hold width limit (table_of H) keeps h c in
        let all = last_sentence (stack_of fs d) h.right (let g : d ≡ length (stack_of fs d) = h.depth in omega (arith, h.fits)) ks in
        record {
          passes_15_again = holds_right width limit (table_of H) h';
          claim = subst₂ (LastSentence (stack_of fs d) ks) (sym e) (sym (holds_stack width limit (table_of H) h')) all;
        }

-- THE LAST SENTENCE, with "the table written for an accepted sheet", four values in a frame and 64 frames: over calls in turn,
pub last_sentence_on_file : {bytes file : List ℕ} (w : WrittenFor bytes file) {fs fs' : List Frame} {d d' : ℕ} {ks : List ℕ} {answers : List Answer}
    → RightFrames frame_width stack_limit (table_of w.sheet) fs d → Calls frame_width stack_limit (table_of w.sheet) fs d ks answers fs' d'
    → LastSentenceOn frame_width stack_limit w.sheet fs d ks answers fs' d'
last_sentence_on_file w = last_sentence_of_calls frame_width stack_limit w.sheet w.standing w.within

-- and of `asked`, put in turn.
pub last_sentence_asked : {bytes file : List ℕ} (w : WrittenFor bytes file) (fs : List Frame) (d : ℕ) (ks : List ℕ) → RightFrames frame_width stack_limit (table_of w.sheet) fs d
    → let r = asked_in_turn frame_width stack_limit file fs d ks in LastSentenceOn frame_width stack_limit w.sheet fs d ks r.answers r.frames r.depth
last_sentence_asked {file = file} w fs d ks p = last_sentence_on_file w p (calls_in_turn frame_width stack_limit (table_of w.sheet) file w.checked ks fs d)

-- Asked at once, a list gets these answers and leaves these frames.
pub asked_all_on_file : {bytes file : List ℕ} (w : WrittenFor bytes file) (fs : List Frame) (d : ℕ) (ks : List ℕ) → RightFrames frame_width stack_limit (table_of w.sheet) fs d
    → let r = asked_in_turn frame_width stack_limit file fs d ks in asked_all file fs d ks ≡ record { answer = accepted r.answers; frames = r.frames; depth = r.depth }
asked_all_on_file {file = file} w fs d ks p =
    at_once_is_in_turn frame_width stack_limit file (table_of w.sheet) w.checked (keeps frame_width stack_limit w.sheet w.standing w.within) fs d p ks
