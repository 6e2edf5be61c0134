-- What each exported function promises, for all input: its answer, and what every lent byte, frame and number then is. The contract of each
-- function is its promise by name, and the theorems on the program rest on these names alone (`WritePromise`: Tables).
use Rattle.std.specs.Prelude.{◌≡◌, List, ℕ}
use Rattle.pcrl.specs.Result.{refusal}
use Rattle.pcrl.specs.Answers.{table_made, table_checked, started, asked, asked_all}
use Rattle.pcrl.specs.Walk.{walk_text}
use Rattle.asking.specs.Encoding.{answer_after, answers_after}
use Rattle.stepping.specs.Promises.{Replied, put_questions}
use Rattle.texts.specs.Wrote.{Wrote}
use Rattle.frames.specs.declared.LentFrame.{LentFrame}
use Rattle.frames.specs.Lists.{lent_frames}

-- `wizbratel_check_sheet`: the number of the first of questions 1 to 10 that fails, or 0
abbrev pub CheckPromise : (sheet : List ℕ) (r : ℕ) → Type 0
CheckPromise sheet r = r ≡ refusal (table_made sheet)

-- `wizbratel_check_table`: the number of the first of 12 to 14 that fails, or 0
abbrev pub CheckTablePromise : (file : List ℕ) (r : ℕ) → Type 0
CheckTablePromise file r = r ≡ refusal (table_checked file)

-- `wizbratel_start`, on a file, the lent frames and the lent depth
abbrev pub StartPromise : (file : List ℕ) (fs : List LentFrame) (d r : ℕ) (fs' : List LentFrame) (d' : ℕ) → Type 0
StartPromise file fs d r fs' d' = Replied (started file (lent_frames fs) d) r (lent_frames fs') d'

-- `wizbratel_ask`, with the bytes lent for the answer, before and after
abbrev pub AskPromise : (file : List ℕ) (fs : List LentFrame) (d k : ℕ) (out : List ℕ) (r : ℕ) (fs' : List LentFrame) (d' : ℕ) (out' : List ℕ) → Type 0
AskPromise file fs d k out r fs' d' out' = (Replied (asked file (lent_frames fs) d k) r (lent_frames fs') d') × (out' ≡ answer_after (asked file (lent_frames fs) d k).answer out)

-- `wizbratel_ask_all`: as many of the questions as there is room for answers
abbrev pub AskAllPromise : (file : List ℕ) (fs : List LentFrame) (d : ℕ) (ks out : List ℕ) (r : ℕ) (fs' : List LentFrame) (d' : ℕ) (out' : List ℕ) → Type 0
AskAllPromise file fs d ks out r fs' d' out' =
    (Replied (asked_all file (lent_frames fs) d (put_questions ks out)) r (lent_frames fs') d')
    × (out' ≡ answers_after (asked_all file (lent_frames fs) d (put_questions ks out)).answer out)

-- `wizbratel_walk`: the text as far as there is room
abbrev pub WalkPromise : (sheet out : List ℕ) (r : ℕ) (out' : List ℕ) → Type 0
WalkPromise sheet out r out' = Wrote out 0 (walk_text sheet) out' r
