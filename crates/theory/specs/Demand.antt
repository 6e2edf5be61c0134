-- DEMAND 3 OF THE REQUEST, whole: its two sentences, clause by clause, from the bytes of accepted sheets. Both are proved.
use Rattle.std.specs.Prelude.{◌≡◌, List, ◌↔◌, ℕ}
use Rattle.pcrl.specs.Limits.{frame_width, stack_limit}
use Rattle.pcrl.specs.Result.{accepted}
use Rattle.pcrl.specs.Sheet.{Sheet}
use Rattle.pcrl.specs.Label.{Label}
use Rattle.pcrl.specs.Table.{Table}
use Rattle.pcrl.specs.Stack.{Frame, RightFrames, stack_of}
use Rattle.pcrl.specs.Ask.{Answer, labels}
use Rattle.pcrl.specs.Equality.{System, Equal, Run}
use Rattle.pcrl.specs.States.{State, of_stack, system, RightState, stands_for}
use Rattle.pcrl.specs.Answers.{sheet_read, file_made, table_checked, asked_all}
use Rattle.theory.specs.AnswersAre.{AnswersAre}
use Rattle.theory.specs.Calls.{Calls}

-- "an accepted sheet", the file written for it, and "such a sheet's table" as it is read from that file
pub record AcceptedSheet : Type 0 where
  pub bytes : List ℕ
  pub room : ℕ
  pub file : List ℕ
  pub sheet : Sheet
  pub table : Table
  pub read : sheet_read bytes ≡ accepted sheet
  pub made : file_made bytes room ≡ accepted file
  pub checked : table_checked file ≡ accepted table

-- "Each state steps by its own sheet or table."
abbrev pub states : AcceptedSheet → System Label
states A = system frame_width A.sheet A.table

abbrev pub FirstSentence : Type 0
FirstSentence =
    -- "Whatever two states are taken, each a closed process term of an accepted sheet or a stack, however deep, of such a sheet's table, from one sheet or two,"
    (A B : AcceptedSheet) (s t : State) → RightState frame_width A.sheet A.table s → RightState frame_width B.sheet B.table t
    -- "and whatever n from 0:"
    → (n : ℕ)
    -- "they are equal to n steps exactly when the terms they stand for are."
    → Equal (states A) (states B) n s t ↔ Equal (states A) (states B) n (stands_for A.sheet s) (stands_for B.sheet t)

-- what the last sentence says, where the questions ks, put to the frames fs of depth d, got the answers and left the frames fs' of depth d'
pub record Answered (A : AcceptedSheet) (fs : List Frame) (d : ℕ) (ks : List ℕ) (answers : List Answer) (fs' : List Frame) (d' : ℕ) : Type 0 where
  -- "each answer, and the stack it leaves, is the one document 01's steps give, with 16 exactly where the next stack passes 64 frames;"
  pub each : AnswersAre frame_width stack_limit A.table (stack_of fs d) ks answers (stack_of fs' d')
  -- question 15 passes again: unused frames are zero, spare values 0
  pub frames_right : RightFrames frame_width stack_limit A.table fs' d'
  -- "and the labels answered, in order, are those of a run from the term the first stack stands for to a state"
  pub end : State
  pub run : Run (states A) (stands_for A.sheet (of_stack (stack_of fs d))) (labels answers) end
  -- "that is equal to n steps, for every n, to the last stack."
  pub equal : (n : ℕ) → Equal (states A) (states A) n end (of_stack (stack_of fs' d'))

abbrev pub LastSentence : Type 0
LastSentence =
    -- "And for every list of step questions, those answered ended, none or 16 included,"
    (A : AcceptedSheet) (ks : List ℕ)
    -- "put in turn to the stepping program from any stack of at most 64 frames of such a table:"
    → (fs : List Frame) (d : ℕ) → RightFrames frame_width stack_limit A.table fs d
    → (answers : List Answer) (fs' : List Frame) (d' : ℕ) → Calls frame_width stack_limit A.table fs d ks answers fs' d'
    → Answered A fs d ks answers fs' d'

-- the same, where the whole list is put at once
abbrev pub LastSentenceAtOnce : Type 0
LastSentenceAtOnce =
    (A : AcceptedSheet) (ks : List ℕ) (fs : List Frame) (d : ℕ) → RightFrames frame_width stack_limit A.table fs d
    → (answers : List Answer) × (fs' : List Frame) × (d' : ℕ) × (asked_all A.file fs d ks ≡ record { answer = accepted answers; frames = fs'; depth = d' })
    × Answered A fs d ks answers fs' d'
