-- The replies of `started`, `asked` and `asked-all` from the answers of each layer.
use mathlib.Core.Path.{◌≡◌, refl, sym, ap, ◌∙◌}
use mathlib.Core.List.{List}
use Prim.Native.Nat.{ℕ, ◌/◌}
use native.Mathlib.Decide.{ℕ_discrete}
use lib.ListN.{length}
use Rattle.pcrl.specs.Limits.{frame_width, stack_limit}
use Rattle.pcrl.specs.Result.{Result, refused, accepted, question, after, refusal}
use Rattle.pcrl.specs.Table.{Table}
use Rattle.pcrl.specs.Stack.{Frame, Stack, RightFrames, right_frames?, frames_of}
use Rattle.pcrl.specs.Ask.{Answer}
use Rattle.pcrl.specs.Answers.{table_checked, Reply, reply, stack_read, start_stack, started_in, started, asked_in, asked, asked_all_in, asked_all}
use Rattle.laws.specs.Questions.{question_passes, question_fails}
use Rattle.theory.specs.Lending.{passes_15}
use Rattle.theory.specs.InTurn.{asked_all_is}
use Rattle.stacks.specs.Lent.{frame_bytes, frames_in}
use Rattle.stacks.proofs.Views.{length_frames_in}
use Rattle.asking.specs.Encoding.{answers_after}
use Rattle.asking.specs.Replies.{AllIs}
use Rattle.stepping.specs.Promises.{Replied}

-- a reply that is known
pub replied_by : {A : Type 0} (R R' : Reply A) → R ≡ R' → (r : ℕ) (fs : List Frame) (d : ℕ) → r ≡ refusal R'.answer → fs ≡ R'.frames → d ≡ R'.depth → Replied R r fs d
replied_by {A} R R' q r fs d a f e =
    record { answer = a ∙ sym (ap (λ (x : Reply A). refusal x.answer) q); frames = f ∙ sym (ap (λ (x : Reply A). x.frames) q); depth = e ∙ sym (ap (λ (x : Reply A). x.depth) q) }

module _ (file : List ℕ) (fs : List Frame) (d : ℕ) where
  -- REFUSED BEFORE ANY STEP

  pub asked_refused : (k n : ℕ) → stack_read frame_width stack_limit file fs d ≡ refused n → asked file fs d k ≡ record { answer = refused n; frames = fs; depth = d }
  unfolding asked_in after reply
  asked_refused k n e = rw e

  pub all_refused : (ks : List ℕ) (n : ℕ) → stack_read frame_width stack_limit file fs d ≡ refused n → asked_all file fs d ks ≡ record { answer = refused n; frames = fs; depth = d }
  unfolding asked_all_in after reply
  all_refused ks n e = rw e

  pub read_no_table : (n : ℕ) → table_checked file ≡ refused n → stack_read frame_width stack_limit file fs d ≡ refused n
  unfolding stack_read after
  read_no_table n e = rw e

  pub read_no_stack : (T : Table) → table_checked file ≡ accepted T → ¬ RightFrames frame_width stack_limit T fs d → stack_read frame_width stack_limit file fs d ≡ refused 15
  unfolding stack_read after
  read_no_stack T e h = rw e (question_fails 15 (right_frames? frame_width stack_limit T fs d) _ h)

  pub list_refused : (n : ℕ) → stack_read frame_width stack_limit file fs d ≡ refused n
      → (ks out : List ℕ) → Replied (asked_all file fs d ks) n fs d × (out ≡ answers_after (asked_all file fs d ks).answer out)
  unfolding refusal answers_after
  list_refused n e ks out = let q = all_refused ks n e in (replied_by (asked_all file fs d ks) _ q n fs d refl refl refl, sym (ap (λ (x : Reply (List Answer)). answers_after x.answer out) q))

  -- ANSWERED

  pub all_answered : (T : Table) → table_checked file ≡ accepted T → RightFrames frame_width stack_limit T fs d
      → (new : List Frame) (ks out out' : List ℕ) (e : ℕ) → AllIs T fs d ks out out' new e
      → Replied (asked_all file fs d ks) 0 new e × (out' ≡ answers_after (asked_all file fs d ks).answer out)
  unfolding refusal
  all_answered T checked right new ks out out' e a =
      let q = asked_all_is frame_width stack_limit file T checked ((passes_15 frame_width stack_limit T fs d).0 right) ks in
      (replied_by (asked_all file fs d ks) _ q 0 new e refl a.frames a.depth, a.answers ∙ sym (ap (λ (x : Reply (List Answer)). answers_after x.answer out) q))

module _ (file bytes : List ℕ) (d : ℕ) where
  abbrev fs : List Frame
  fs = frames_in frame_width bytes

  -- START A STACK

  abbrev first_stack : Result (Unit {0} × Stack)
  first_stack = after (table_checked file) (λ T. question 15 (ℕ_discrete (length fs) stack_limit) (λ _. accepted (tt, start_stack frame_width T)))

  started_as : (x : Result (Unit {0} × Stack)) → first_stack ≡ x → started file fs d ≡ reply frame_width stack_limit fs d x
  unfolding started_in
  started_as x e = ap (reply frame_width stack_limit fs d) e

  start_refused : (n : ℕ) → first_stack ≡ refused n → Replied (started file fs d) n fs d
  unfolding reply refusal
  start_refused n e = replied_by (started file fs d) _ (started_as (refused n) e) n fs d refl refl refl

  pub start_no_table : (n : ℕ) → table_checked file ≡ refused n → Replied (started file fs d) n fs d
  unfolding after
  start_no_table n e = start_refused n (rw e)

  module _ (T : Table) (checked : table_checked file ≡ accepted T) where
    pub start_no_stack : ¬ (length bytes / frame_bytes frame_width ≡ stack_limit) → Replied (started file fs d) 15 fs d
    unfolding after
    start_no_stack n = start_refused 15 (rw checked (question_fails 15 (ℕ_discrete (length fs) stack_limit) _ (λ e. n (sym (length_frames_in frame_width bytes) ∙ e))))

    pub start_done : length bytes / frame_bytes frame_width ≡ stack_limit → (new : List Frame) → new ≡ frames_of frame_width stack_limit (start_stack frame_width T) → Replied (started file fs d) 0 new 1
    unfolding after reply refusal start_stack
    start_done n new e =
        replied_by (started file fs d) _
        (started_as (accepted (tt, start_stack frame_width T)) (rw checked (question_passes 15 (ℕ_discrete (length fs) stack_limit) _ (accepted (tt, start_stack frame_width T)) (length_frames_in frame_width bytes ∙ n) (λ _. refl))))
        0 new 1 refl e refl
