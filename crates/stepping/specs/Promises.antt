-- What the operations on a table file and lent frames promise, for all input.
use Rattle.std.specs.Prelude.{◌≡◌, List, ℕ, ◌*◌, ◌/◌, ◌≤◌, min, length, take, Result, Ok, Err}
use Rattle.pcrl.specs.Limits.{max_stream}
use Rattle.pcrl.specs.Result as R
use Rattle.pcrl.specs.Result.{refusal}
use Rattle.pcrl.specs.Blocks.{block_bytes, block_stream}
use Rattle.pcrl.specs.Table.{Table}
use Rattle.pcrl.specs.Right.{RightTable}
use Rattle.pcrl.specs.Stack.{Frame}
use Rattle.pcrl.specs.Answers.{Reply, started, asked, asked_all}
use Rattle.refusals.specs.declared.Refusal.{Refusal}
use Rattle.refusals.specs.Numbers.{number_in}
use Rattle.refusals.specs.Answered.{Answered}
use Rattle.tables.specs.Indexed.{Indexed}
use Rattle.asking.specs.Encoding.{answer_bytes, answer_after, answers_after}
use Rattle.stepping.specs.declared.Loaded.{Loaded}

-- n bytes are room for the file's stream, and no more than the longest stream takes
abbrev pub HasRoom : List ℕ → ℕ → Type 0
HasRoom file n = (min (length file / block_bytes * block_stream) max_stream ≤ n) × (n ≤ max_stream)

-- the table, by its index in the front of the lent bytes
abbrev pub HasLoaded : List ℕ → Table → Loaded → Type 0
HasLoaded s T l = (l.count ≤ length s) × (RightTable T × Indexed T (take l.count s) l.index)

-- questions 12 to 14: the one that failed; or the table
abbrev pub Loads : R.Result Table → List ℕ → Result Loaded Refusal → Type 0
Loads x s r = Answered (HasLoaded s) x r

-- An operation was answered as R says: r is the number of the question that failed, or 0; fs and d are the frames and the depth that it left.
pub record Replied {A : Type 0} (R : Reply A) (r : ℕ) (fs : List Frame) (d : ℕ) : Type 0 where
  pub answer : r ≡ refusal R.answer
  pub frames : fs ≡ R.frames
  pub depth : d ≡ R.depth

-- the depth that is left, which was d: after a refusal it is as it was
abbrev pub depth_left : ℕ → Result ℕ Refusal → ℕ
depth_left d (Ok e) = e
depth_left d (Err r) = d

-- the questions that are put, of ks: as many as there is room for whole answers in out
abbrev pub put_questions : List ℕ → List ℕ → List ℕ
put_questions ks out = take (length out / answer_bytes) ks

-- THE ANSWER TO A START, on the frames fs and the depth d
abbrev pub StartIs : (file : List ℕ) (fs : List Frame) (d : ℕ) (r : Result ℕ Refusal) (fs' : List Frame) → Type 0
StartIs file fs d r fs' = Replied (started file fs d) (number_in r) fs' (depth_left d r)

-- THE ANSWER TO A QUESTION, with the bytes lent for it, before and after
abbrev pub QuestionIs : (file : List ℕ) (fs : List Frame) (d k : ℕ) (out : List ℕ) (r : Result ℕ Refusal) (fs' : List Frame) (out' : List ℕ) → Type 0
QuestionIs file fs d k out r fs' out' = (Replied (asked file fs d k) (number_in r) fs' (depth_left d r)) × (out' ≡ answer_after (asked file fs d k).answer out)

-- the answer to all of a list
abbrev pub AllAsked : (file : List ℕ) (fs : List Frame) (d : ℕ) (ks out : List ℕ) (r : Result ℕ Refusal) (fs' : List Frame) (out' : List ℕ) → Type 0
AllAsked file fs d ks out r fs' out' = (Replied (asked_all file fs d ks) (number_in r) fs' (depth_left d r)) × (out' ≡ answers_after (asked_all file fs d ks).answer out)

-- THE ANSWER TO A LIST, as far as there is room
abbrev pub ListIs : (file : List ℕ) (fs : List Frame) (d : ℕ) (ks out : List ℕ) (r : Result ℕ Refusal) (fs' : List Frame) (out' : List ℕ) → Type 0
ListIs file fs d ks out r fs' out' = AllAsked file fs d (put_questions ks out) out r fs' out'
