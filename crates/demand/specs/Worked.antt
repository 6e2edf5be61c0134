-- Demand 3 over the program is not empty: a table that was made of a sheet, and questions put to its stack in turn.
use Rattle.std.specs.Prelude.{refl, List, [], ◌∷◌, ℕ, replicate}
use Rattle.pcrl.specs.Text.{bytes}
use Rattle.pcrl.specs.Limits.{frame_width, stack_limit}
use Rattle.pcrl.specs.Result.{refusal}
use Rattle.pcrl.specs.Tests.{Each}
use Rattle.pcrl.specs.Stack.{RightFrames}
use Rattle.pcrl.specs.Ask.{Answer}
use Rattle.pcrl.specs.Answers.{file_made, output_after, asked}
use Rattle.laws.specs.Computing.{definitions}
use Rattle.asking.specs.Encoding.{answer_after, answer_bytes}
use Rattle.frames.specs.Lists.{no_frames, frame_of, lent_frames}
use Rattle.theory.specs.Demand.{Answered}
use Rattle.wizbratel.specs.Tables.{written_after}
use Rattle.wizbratel.specs.Promises.{StartPromise}
use Rattle.demand.specs.Program.{Made, blocks, sheet_of, started_right, Call, Tells, Asking, no_question, question_then, steps_in_turn}

abbrev growing : List ℕ
growing = bytes "act a;proc X=a.X.X;init X;"

-- a table made of this sheet, in a block that was lent
unfoldable pub growing_made : Made
unfolding definitions
growing_made = record {
  sheet = growing;
  out = replicate 512 0;
  out' = output_after (file_made growing 512) (replicate 512 0);
  written = 0;
  written' = written_after (file_made growing 512) 0;
  r = refusal (file_made growing 512);
  promise = record { answer = refl; output = refl; count = refl };
  zero = refl;
}

-- The stack that was started: the frame of X is a zero frame, so 64 lent frames stay what they were and the depth tells the stack.
started_at_one : StartPromise (blocks growing_made) no_frames 0 0 no_frames 1
unfolding growing_made written_after definitions lent_frames frame_of
started_at_one = record { answer = refl; frames = refl; depth = refl }

right_start : RightFrames frame_width stack_limit (sheet_of growing_made).table (lent_frames no_frames) 1
right_start = started_right growing_made no_frames 0 0 no_frames 1 started_at_one refl

-- bytes lent for an answer
abbrev lent : List ℕ
lent = replicate answer_bytes 0

-- a call on a depth, answered as its promise says
unfoldable pub called : ℕ → ℕ → Call
called d k = record {
  r = refusal (asked (blocks growing_made) (lent_frames no_frames) d k).answer;
  before = lent;
  after = answer_after (asked (blocks growing_made) (lent_frames no_frames) d k).answer lent;
}

-- step 0 is taken, and there is no step 5
two_calls : Asking (blocks growing_made) no_frames 1 (0 ∷ (5 ∷ [])) (called 1 0 ∷ (called 2 5 ∷ [])) no_frames 2
unfolding called growing_made written_after definitions lent_frames frame_of
two_calls =
    question_then {fs = no_frames} {fs' = no_frames} {d = 1} {d' = 2} {k = 0} {c = called 1 0} (record { answer = refl; frames = refl; depth = refl }, refl)
    (question_then {fs = no_frames} {fs' = no_frames} {d = 2} {d' = 2} {k = 5} {c = called 2 5} (record { answer = refl; frames = refl; depth = refl }, refl) no_question)

-- WHAT DEMAND 3 SAYS OF THEM: two answers, told by the calls, as document 01's steps give them, and a run of the term X.
pub growing_answered : (answers : List Answer) × Each Tells (called 1 0 ∷ (called 2 5 ∷ [])) answers × Answered (sheet_of growing_made) (lent_frames no_frames) 1 (0 ∷ (5 ∷ [])) answers (lent_frames no_frames) 2
growing_answered = steps_in_turn growing_made no_frames 1 right_start (0 ∷ (5 ∷ [])) (called 1 0 ∷ (called 2 5 ∷ [])) no_frames 2 two_calls
