-- The 64 frames at the front of the lent bytes are lent on, and come back changed.
use mathlib.Core.Path.{◌≡◌, sym, ap, ◌∙◌, subst, subst₂}
use mathlib.Core.List.{List, ◌++◌}
use Prim.Native.Nat.{ℕ, ◌/◌, ◌≤◌, min}
use native.Mathlib.Omega.{arith}
use lib.ListN.{length, take, drop, length-take}
use native.Mathlib.Decide.{dec_le}
use lib.Seq.{take_all}
use Rattle.pcrl.specs.Limits.{frame_width, stack_limit}
use Rattle.pcrl.specs.Result.{accepted}
use Rattle.pcrl.specs.Table.{Table}
use Rattle.pcrl.specs.Stack.{Frame, RightFrames, frames_of}
use Rattle.pcrl.specs.Answers.{table_checked, start_stack, started, asked_all}
use Rattle.tables.specs.declared.Index.{Index}
use Rattle.stacks.specs.Lent.{frame_bytes, frames_in, stack_bytes}
use Rattle.asking.specs.Encoding.{answer_bytes, answers_after}
use Rattle.asking.specs.Replies.{AllIs}
use Rattle.stepping.specs.Promises.{Replied, put_questions}
use Rattle.stepping.proofs.Fronts.{front_frames, front_back}
use Rattle.stepping.proofs.Readiness.{Ready, ready_count}
use Rattle.stepping.proofs.Answering.{all_answered, start_done}

-- a count that passes the end takes all
min_take : (n : ℕ) (l : List ℕ) → take (min (length l) n) l ≡ take n l
min_take n l = elim (dec_le (length l) n) [
  | yes h ↦ (let z : min (length l) n ≡ length l = omega arith in ap (λ (m : ℕ). take m l) z ∙ take_all (length l) l (omega arith) ∙ sym (take_all n l h))
  | no h ↦ (let z : min (length l) n ≡ n = omega arith in ap (λ (m : ℕ). take m l) z)
]

module _ (file bytes : List ℕ) (d : ℕ) (stream : List ℕ) (index : Index) (y : Ready file bytes d stream index) where
  count : length bytes / frame_bytes frame_width ≡ stack_limit
  count = (ready_count file bytes d stream index y).0

  abbrev front : List ℕ
  front = take stack_bytes bytes

  -- what is required of the frames lent on
  pub front_fits : (length front ≡ stack_bytes) × (d ≤ stack_limit)
  front_fits = let c = count in (length-take stack_bytes bytes ∙ (let z : min stack_bytes (length bytes) ≡ stack_bytes = omega arith in z), (ready_count file bytes d stream index y).1)

  pub front_right : RightFrames frame_width stack_limit y.table (frames_in frame_width front) d
  front_right = subst (λ (fs : List Frame). RightFrames frame_width stack_limit y.table fs d) (sym (front_frames bytes count)) y.right_frames

  module _ (new : List ℕ) (len : length new ≡ length front) where
    new_length : length new ≡ stack_bytes
    new_length = len ∙ front_fits.0

    pub new_frames : frames_in frame_width (new ++ drop stack_bytes bytes) ≡ frames_in frame_width new
    new_frames = front_back bytes count new new_length

    -- as many questions as there is room for
    pub all_done : (ks out out' asked : List ℕ) (n e : ℕ) → n ≡ min (length ks) (length out / answer_bytes) → asked ≡ take n ks
        → AllIs y.table (frames_in frame_width front) d asked out out' (frames_in frame_width new) e
        → Replied (asked_all file (frames_in frame_width bytes) d (put_questions ks out)) 0 (frames_in frame_width (new ++ drop stack_bytes bytes)) e
        × (out' ≡ answers_after (asked_all file (frames_in frame_width bytes) d (put_questions ks out)).answer out)
    all_done ks out out' asked n e c these a =
        let put : asked ≡ put_questions ks out = these ∙ ap (λ (m : ℕ). take m ks) c ∙ min_take (length out / answer_bytes) ks in
        all_answered file (frames_in frame_width bytes) d y.table y.checked y.right_frames (frames_in frame_width (new ++ drop stack_bytes bytes)) (put_questions ks out) out out' e
        (subst (λ (qs : List ℕ). AllIs y.table (frames_in frame_width bytes) d qs out out' (frames_in frame_width (new ++ drop stack_bytes bytes)) e) put
        (subst₂ (λ (fs gs : List Frame). AllIs y.table fs d asked out out' gs e) (front_frames bytes count) (sym new_frames) a))

-- Start a stack.
pub started_done : (file bytes : List ℕ) (d : ℕ) (T : Table) → table_checked file ≡ accepted T → length bytes / frame_bytes frame_width ≡ stack_limit → (new : List ℕ) → length new ≡ length (take stack_bytes bytes)
    → frames_in frame_width new ≡ frames_of frame_width stack_limit (start_stack frame_width T)
    → Replied (started file (frames_in frame_width bytes) d) 0 (frames_in frame_width (new ++ drop stack_bytes bytes)) 1
started_done file bytes d T checked count new len e =
    let n : length new ≡ stack_bytes = len ∙ length-take stack_bytes bytes ∙ (let z : min stack_bytes (length bytes) ≡ stack_bytes = omega arith in z) in
    start_done file bytes d T checked count (frames_in frame_width (new ++ drop stack_bytes bytes)) (front_back bytes count new n ∙ e)
