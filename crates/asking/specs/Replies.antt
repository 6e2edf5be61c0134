-- What a program tells of a question: a definition gives the answer of document 01 for each.
use Rattle.std.specs.Prelude.{◌≡◌, List, ℕ, length, take}
use Rattle.pcrl.specs.Limits.{frame_width, stack_limit}
use Rattle.pcrl.specs.Result.{accepted}
use Rattle.pcrl.specs.Sheet.{Sig}
use Rattle.pcrl.specs.Label.{Label}
use Rattle.pcrl.specs.Table.{Table}
use Rattle.pcrl.specs.Stack.{Frame, stack_of, frames_of}
use Rattle.pcrl.specs.Ask.{Answer, ask, ask_all}
use Rattle.labels.specs.Labels.{label_of}
use Rattle.asking.specs.declared.Step.{Step}
use Rattle.asking.specs.declared.Told.{Told}
use Rattle.asking.specs.declared.Told.TheVariants.{Ended, Nothing, Stepped, TooDeep}
use Rattle.asking.specs.Encoding.{answers_after}

-- the label of a step, and the step as an answer
abbrev pub label_told : Sig → Step → Label
label_told S r = label_of S r.action (take r.arity r.values)

abbrev pub step_told : Sig → Step → Answer
step_told S r = Answer.stepped (label_told S r) r.depth

-- the answer that is told
unfoldable pub answer_told : Sig → Told → Answer
answer_told S Ended = Answer.ended
answer_told S Nothing = Answer.nothing
answer_told S (Stepped r) = step_told S r
answer_told S TooDeep = Answer.refused 16

-- the depth after what is told, which was d
abbrev pub depth_after : ℕ → Told → ℕ
depth_after d Ended = d
depth_after d Nothing = d
depth_after d (Stepped r) = r.depth
depth_after d TooDeep = d

-- what is promised of a question k put to the frames fs, of which d are used, of a table that is known
pub record AskIs (T : Table) (fs : List Frame) (d k : ℕ) (r : Told) (fs' : List Frame) : Type 0 where
  pub answer : answer_told T.sig r ≡ (ask frame_width stack_limit T k (stack_of fs d)).answer
  pub frames : fs' ≡ frames_of frame_width stack_limit (ask frame_width stack_limit T k (stack_of fs d)).stack
  pub depth : depth_after d r ≡ length (ask frame_width stack_limit T k (stack_of fs d)).stack

-- the same of the questions ks in turn: the answers in the bytes out, and the frames and depth at the end
pub record AllIs (T : Table) (fs : List Frame) (d : ℕ) (ks out out' : List ℕ) (fs' : List Frame) (d' : ℕ) : Type 0 where
  pub answers : out' ≡ answers_after (accepted (ask_all frame_width stack_limit T ks (stack_of fs d)).0) out
  pub frames : fs' ≡ frames_of frame_width stack_limit (ask_all frame_width stack_limit T ks (stack_of fs d)).1
  pub depth : d' ≡ length (ask_all frame_width stack_limit T ks (stack_of fs d)).1
