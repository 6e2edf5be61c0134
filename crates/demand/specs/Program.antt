-- DEMAND 3 OVER THE PROGRAM: what its own operations answer, by their promises alone.
use Rattle.std.specs.Prelude.{◌≡◌, refl, List, [], ◌∷◌, ◌↔◌, ℕ, length, take, drop}
use Rattle.std.proofs.Common.{sym, ap, ◌∙◌, subst, subst₂, arith}
use Rattle.std.proofs.Math.Decide.{ℕ_discrete}
use Rattle.pcrl.specs.Limits.{frame_width, stack_limit}
use Rattle.pcrl.specs.Tests.{Each}
use Rattle.pcrl.specs.Result.{Result, refused, accepted, question, after, refusal}
use Rattle.pcrl.specs.Table.{Table}
use Rattle.pcrl.specs.Heads.{table_of}
use Rattle.pcrl.specs.Stack as pcrl
use Rattle.pcrl.specs.Stack.{RightFrames}
use Rattle.pcrl.specs.Ask.{Answer, ask}
use Rattle.pcrl.specs.Equality.{Equal}
use Rattle.pcrl.specs.States.{State, RightState, stands_for}
use Rattle.pcrl.specs.Answers.{file_made, table_checked, Reply, reply, start_stack, started_in, started, stack_read, one_answer, asked_in, asked, asked_all}
use Rattle.codec.proofs.FileLaws.{written_read}
use Rattle.theory.specs.Lending.{frames_right}
use Rattle.theory.specs.StepRight.{start_stack_right}
use Rattle.theory.proofs.Written.{written_for}
use Rattle.theory.specs.InTurn.{as_answer, alone}
use Rattle.theory.specs.Calls.{CallIs, Calls, no_call, call_then, call_of_asked}
use Rattle.theory.specs.Demand.{AcceptedSheet, states, Answered}
use Rattle.theory.proofs.Demand.{first_sentence_holds, last_sentence_holds, at_once_holds}
use Rattle.asking.specs.Encoding.{answer_after, answers_after}
use Rattle.stepping.specs.Promises.{put_questions}
use Rattle.frames.specs.declared.LentFrame.{LentFrame}
use Rattle.frames.specs.Lists.{lent_frames}
use Rattle.wizbratel.specs.Tables.{MakePromise}
use Rattle.wizbratel.specs.Promises.{StartPromise, AskPromise, AskAllPromise}
use Rattle.wizbratel.specs.Made.{file_written}

-- AN ACCEPTED SHEET: `wizbratel_make_table` answered 0 for it, and kept its promise.
pub record Made : Type 0 where
  pub sheet : List ℕ
  pub out : List ℕ
  pub out' : List ℕ
  pub written : ℕ
  pub written' : ℕ
  pub r : ℕ
  pub promise : MakePromise sheet out written r out' written'
  pub zero : r ≡ 0

-- "the table written for an accepted sheet": as many bytes of the output as it says
abbrev pub blocks : Made → List ℕ
blocks m = take m.written' m.out'

-- the file that was made, and that it is those bytes
pub filed : (m : Made) → (file : List ℕ) × (file_made m.sheet (length m.out) ≡ accepted file) × (blocks m ≡ file) × (drop m.written' m.out' ≡ drop m.written' m.out)
filed m = file_written m.sheet m.out m.written m.r m.out' m.written' m.promise m.zero

abbrev pub sheet_of : Made → AcceptedSheet
sheet_of m =
    let f = filed m in
    let w = written_for m.sheet (length m.out) f.0 f.1 in
    record { bytes = m.sheet; room = length m.out; file = f.0; sheet = w.sheet; table = table_of w.sheet; read = w.read; made = f.1; checked = w.checked }

blocks_are : (m : Made) → blocks m ≡ (sheet_of m).file
blocks_are m = (filed m).2

-- THE FIRST SENTENCE, of two sheets for which tables were made.
pub equal_alike : (a b : Made)
    -- "Whatever two states are taken, each a closed process term of an accepted sheet or a stack, however deep, of such a sheet's table, from one sheet or two,"
    → (s t : State) → RightState frame_width (sheet_of a).sheet (sheet_of a).table s → RightState frame_width (sheet_of b).sheet (sheet_of b).table t
    -- "and whatever n from 0: they are equal to n steps exactly when the terms they stand for are."
    → (n : ℕ) → Equal (states (sheet_of a)) (states (sheet_of b)) n s t ↔ Equal (states (sheet_of a)) (states (sheet_of b)) n (stands_for (sheet_of a).sheet s) (stands_for (sheet_of b).sheet t)
equal_alike a b s t p q n = first_sentence_holds (sheet_of a) (sheet_of b) s t p q n

-- A STACK TO START FROM: what `wizbratel_start` leaves, where it answers 0, passes question 15.
started_by : (m : Made) (fs : List pcrl.Frame) (d : ℕ) → started (blocks m) fs d ≡ reply frame_width stack_limit fs d (question 15 (ℕ_discrete (length fs) stack_limit) (λ _. accepted (tt, start_stack frame_width (sheet_of m).table)))
unfolding started_in after
started_by m fs d =
    ap (λ (x : Result Table). reply frame_width stack_limit fs d (after x (λ T. question 15 (ℕ_discrete (length fs) stack_limit) (λ _. accepted (tt, start_stack frame_width T))))) (ap table_checked (blocks_are m) ∙ (sheet_of m).checked)

pub started_right : (m : Made) (fs : List LentFrame) (d r : ℕ) (fs' : List LentFrame) (d' : ℕ) → StartPromise (blocks m) fs d r fs' d' → r ≡ 0 → RightFrames frame_width stack_limit (sheet_of m).table (lent_frames fs') d'
unfolding reply question refusal start_stack
started_right m fs d r fs' d' p z = go (ℕ_discrete (length (lent_frames fs)) stack_limit) (started_by m (lent_frames fs) d)
  where
    go : (x : Dec (length (lent_frames fs) ≡ stack_limit)) → started (blocks m) (lent_frames fs) d ≡ reply frame_width stack_limit (lent_frames fs) d (question 15 x (λ _. accepted (tt, start_stack frame_width (sheet_of m).table)))
        → RightFrames frame_width stack_limit (sheet_of m).table (lent_frames fs') d'
    go (no h) e = absurd (let n = p.answer ∙ ap (λ (y : Reply (Unit {0})). refusal y.answer) e in omega arith)
    go (yes h) e =
        let T = (sheet_of m).table in
        subst₂ (λ (gs : List pcrl.Frame) (n : ℕ). RightFrames frame_width stack_limit T gs n) (sym (p.frames ∙ ap (λ (y : Reply (Unit {0})). y.frames) e)) (sym (p.depth ∙ ap (λ (y : Reply (Unit {0})). y.depth) e))
        (frames_right frame_width stack_limit T (start_stack frame_width T) (start_stack_right T (written_read (sheet_of m).file T (sheet_of m).checked).1 frame_width) (omega arith))

-- ONE CALL: the number that `wizbratel_ask` answered, and the bytes lent for the answer, before and after.
pub record Call : Type 0 where
  pub r : ℕ
  pub before : List ℕ
  pub after : List ℕ

-- its promise, on a file and the frames and depth lent to it
abbrev pub Kept : List ℕ → List LentFrame → ℕ → ℕ → Call → List LentFrame → ℕ → Type 0
Kept file fs d k c fs' d' = AskPromise file fs d k c.before c.r fs' d' c.after

-- What a caller reads off it, "those answered ended, none or 16 included": for 16 the number alone, and the bytes as they were; for every
-- other answer 0, and that answer's bytes, which no other answer has (asking, answer-tells).
pub record Tells (c : Call) (a : Answer) : Type 0 where
  pub number : c.r ≡ refusal (alone a)
  pub bytes : c.after ≡ answer_after (alone a) c.before

-- "A refusal returns its number alone."
asked_alone : (file : List ℕ) (fs : List pcrl.Frame) (d k : ℕ) → (asked file fs d k).answer ≡ alone (as_answer (asked file fs d k).answer)
unfolding asked_in reply after one_answer alone as_answer
asked_alone file fs d k = go (stack_read frame_width stack_limit file fs d)
  where
    one : (a : Answer) (s : pcrl.Stack) → (reply frame_width stack_limit fs d (one_answer frame_width stack_limit (record { answer = a; stack = s }))).answer
        ≡ alone (as_answer (reply frame_width stack_limit fs d (one_answer frame_width stack_limit (record { answer = a; stack = s }))).answer)
    one Answer.ended s = refl
    one Answer.nothing s = refl
    one (Answer.stepped l n) s = refl
    one (Answer.refused n) s = refl

    answered : Result (Table × pcrl.Stack) → Result Answer
    answered x = (reply frame_width stack_limit fs d (after x (λ y. one_answer frame_width stack_limit (ask frame_width stack_limit y.0 k y.1)))).answer

    go : (x : Result (Table × pcrl.Stack)) → answered x ≡ alone (as_answer (answered x))
    go (refused n) = refl
    go (accepted y) = one (ask frame_width stack_limit y.0 k y.1).answer (ask frame_width stack_limit y.0 k y.1).stack

-- "put in turn to the stepping program": each call on the frames and depth that the last one left
pub data Asking (file : List ℕ) : List LentFrame → ℕ → List ℕ → List Call → List LentFrame → ℕ → Type 0 where
  no_question : {fs : List LentFrame} {d : ℕ} → Asking file fs d [] [] fs d
  question_then : {fs fs' fs'' : List LentFrame} {d d' d'' k : ℕ} {c : Call} {ks : List ℕ} {cs : List Call} → Kept file fs d k c fs' d' → Asking file fs' d' ks cs fs'' d'' → Asking file fs d (k ∷ ks) (c ∷ cs) fs'' d''

calls : (file : List ℕ) (T : Table) → table_checked file ≡ accepted T → {fs fs' : List LentFrame} {d d' : ℕ} {ks : List ℕ} {cs : List Call} → Asking file fs d ks cs fs' d'
    → (answers : List Answer) × Each Tells cs answers × Calls frame_width stack_limit T (lent_frames fs) d ks answers (lent_frames fs') d'
unfolding Each
calls file T checked no_question = ([], tt, no_call)
calls file T checked (question_then {fs} {fs'} {d = d} {d'} {k = k} {c} p more) =
    let (l, each, rest) = calls file T checked more in
    let R = asked file (lent_frames fs) d k in
    let is = asked_alone file (lent_frames fs) d k in (
      as_answer R.answer ∷ l,
      (record { number = p.0.answer ∙ ap refusal is; bytes = p.1 ∙ ap (λ (x : Result Answer). answer_after x c.before) is }, each),
      call_then
          (λ right. subst₂ (λ (gs : List pcrl.Frame) (n : ℕ). CallIs frame_width stack_limit T (lent_frames fs) d k (as_answer R.answer) gs n) (sym p.0.frames) (sym p.0.depth) (call_of_asked frame_width stack_limit T file checked (lent_frames fs) d k R refl right))
          rest,
    )

-- THE LAST SENTENCE, one call for each question.
pub steps_in_turn : (m : Made)
    -- "from any stack of at most 64 frames of such a table"
    → (fs : List LentFrame) (d : ℕ) → RightFrames frame_width stack_limit (sheet_of m).table (lent_frames fs) d
    -- "for every list of step questions, .. put in turn to the stepping program"
    → (ks : List ℕ) (cs : List Call) (fs' : List LentFrame) (d' : ℕ) → Asking (blocks m) fs d ks cs fs' d'
    -- "each answer, and the stack it leaves, is the one document 01's steps give, ..": all of `Answered`
    → (answers : List Answer) × Each Tells cs answers × Answered (sheet_of m) (lent_frames fs) d ks answers (lent_frames fs') d'
steps_in_turn m fs d right ks cs fs' d' asking =
    let A = sheet_of m in
    let (answers, each, made) = calls A.file A.table A.checked (subst (λ (f : List ℕ). Asking f fs d ks cs fs' d') (blocks_are m) asking) in
    (answers, each, last_sentence_holds A ks (lent_frames fs) d right answers (lent_frames fs') d' made)

-- The same, the whole list by one call of `wizbratel_ask_all`, as many questions as there is room for answers.
pub steps_at_once : (m : Made) (fs : List LentFrame) (d : ℕ) → RightFrames frame_width stack_limit (sheet_of m).table (lent_frames fs) d
    -- its promise, on the blocks written
    → (ks out : List ℕ) (r : ℕ) (fs' : List LentFrame) (d' : ℕ) (out' : List ℕ) → AskAllPromise (blocks m) fs d ks out r fs' d' out'
    → (answers : List Answer) × (r ≡ 0) × (out' ≡ answers_after (accepted answers) out) × Answered (sheet_of m) (lent_frames fs) d (put_questions ks out) answers (lent_frames fs') d'
unfolding refusal
steps_at_once m fs d right ks out r fs' d' out' (p, w) =
    let A = sheet_of m in
    let (answers, gs, n, e, all) = at_once_holds A (put_questions ks out) (lent_frames fs) d right in
    let q : asked_all (blocks m) (lent_frames fs) d (put_questions ks out) ≡ record { answer = accepted answers; frames = gs; depth = n } = ap (λ (f : List ℕ). asked_all f (lent_frames fs) d (put_questions ks out)) (blocks_are m) ∙ e in (
      answers,
      p.answer ∙ ap (λ (x : Reply (List Answer)). refusal x.answer) q,
      w ∙ ap (λ (x : Reply (List Answer)). answers_after x.answer out) q,
      subst₂ (λ (hs : List pcrl.Frame) (k : ℕ). Answered A (lent_frames fs) d (put_questions ks out) answers hs k) (sym (p.frames ∙ ap (λ (x : Reply (List Answer)). x.frames) q)) (sym (p.depth ∙ ap (λ (x : Reply (List Answer)). x.depth) q)) all,
    )
