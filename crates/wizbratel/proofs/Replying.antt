-- What is answered on frame structs, by what is answered on bytes that hold the same frames; where no 64 frames are lent, on none.
use mathlib.Core.Path.{◌≡◌, refl, sym, ◌∙◌, ap, subst}
use mathlib.Core.List.{List, ◌++◌, append-nil}
use Prim.Native.Nat.{ℕ, ◌-◌, ◌*◌, ◌/◌}
use native.Mathlib.Omega.{arith}
use native.Mathlib.Decide.{ℕ_discrete}
use lib.ListN.{length, take, drop, length-take, drop_of_length-le}
use lib.Seq.{take_all}
use Rattle.pcrl.specs.Limits.{frame_width, stack_limit}
use Rattle.pcrl.specs.Result.{Result, refused, accepted, question, after, refusal}
use Rattle.pcrl.specs.Table.{Table}
use Rattle.pcrl.specs.Stack as pcrl
use Rattle.pcrl.specs.Stack.{RightFrames, right_frames?}
use Rattle.pcrl.specs.Answers.{table_checked, Reply, reply, start_stack, stack_read, started_in, started, asked_in, asked, asked_all_in, asked_all}
use Rattle.laws.specs.Questions.{question_fails}
use Rattle.stacks.specs.Lent.{frame_bytes, frames_in, stack_bytes}
use Rattle.stacks.proofs.Views.{length_frames_in}
use Rattle.stepping.specs.Promises.{Replied}
use Rattle.frames.specs.declared.LentFrame.{LentFrame}
use Rattle.frames.specs.Lists.{over, taken, lent_frames}
use Rattle.frames.proofs.Over.{over_zero, over_all, frames_length, taken_all, taken_none}

-- one refusal for all frames that are not 64
abbrev pub Unread : {A : Type 0} → (List pcrl.Frame → Reply A) → ℕ → Type 0
Unread X d = (n : ℕ) × ((fs : List pcrl.Frame) → ¬ (length fs ≡ stack_limit) → X fs ≡ record { answer = refused n; frames = fs; depth = d })

module _ (file : List ℕ) (d : ℕ) where
  read_refused : (fs : List pcrl.Frame) (n : ℕ) → table_checked file ≡ refused n → stack_read frame_width stack_limit file fs d ≡ refused n
  unfolding stack_read after
  read_refused fs n e = rw e

  read_wrong : (fs : List pcrl.Frame) (T : Table) → table_checked file ≡ accepted T → ¬ RightFrames frame_width stack_limit T fs d → stack_read frame_width stack_limit file fs d ≡ refused 15
  unfolding stack_read after
  read_wrong fs T e h = rw e (question_fails 15 (right_frames? frame_width stack_limit T fs d) _ h)

  unread : (n : ℕ) × ((fs : List pcrl.Frame) → ¬ (length fs ≡ stack_limit) → stack_read frame_width stack_limit file fs d ≡ refused n)
  unfolding RightFrames
  unread = go (table_checked file) refl
    where
      go : (x : Result Table) → table_checked file ≡ x → (n : ℕ) × ((fs : List pcrl.Frame) → ¬ (length fs ≡ stack_limit) → stack_read frame_width stack_limit file fs d ≡ refused n)
      go (refused n) e = (n, λ fs h. read_refused fs n e)
      go (accepted T) e = (15, λ fs h. read_wrong fs T e (λ r. h r.0))

  asked_as : (fs : List pcrl.Frame) (k n : ℕ) → stack_read frame_width stack_limit file fs d ≡ refused n → asked file fs d k ≡ record { answer = refused n; frames = fs; depth = d }
  unfolding asked_in after reply
  asked_as fs k n e = rw e

  all_as : (fs : List pcrl.Frame) (ks : List ℕ) (n : ℕ) → stack_read frame_width stack_limit file fs d ≡ refused n → asked_all file fs d ks ≡ record { answer = refused n; frames = fs; depth = d }
  unfolding asked_all_in after reply
  all_as fs ks n e = rw e

  pub asked_unread : (k : ℕ) → Unread (λ fs. asked file fs d k) d
  asked_unread k = let (n, refuses) = unread in (n, λ fs h. asked_as fs k n (refuses fs h))

  pub all_unread : (ks : List ℕ) → Unread (λ fs. asked_all file fs d ks) d
  all_unread ks = let (n, refuses) = unread in (n, λ fs h. all_as fs ks n (refuses fs h))

  first_stack : List pcrl.Frame → Result Table → Result (Unit {0} × pcrl.Stack)
  first_stack fs x = after x (λ T. question 15 (ℕ_discrete (length fs) stack_limit) (λ _. accepted (tt, start_stack frame_width T)))

  pub started_unread : Unread (λ fs. started file fs d) d
  unfolding started_in reply after first_stack
  started_unread = go (table_checked file)
    where
      go : (x : Result Table) → (n : ℕ) × ((fs : List pcrl.Frame) → ¬ (length fs ≡ stack_limit) → reply frame_width stack_limit fs d (first_stack fs x) ≡ record { answer = refused n; frames = fs; depth = d })
      go (refused n) = (n, λ fs h. refl)
      go (accepted T) = (15, λ fs h. ap (reply frame_width stack_limit fs d) (question_fails 15 (ℕ_discrete (length fs) stack_limit) _ h))

module _ {A : Type 0} (X : List pcrl.Frame → Reply A) (m : ℕ) (xs ys : List LentFrame) (len : length xs ≡ m) (bytes : List ℕ) where
  -- no 64 frames are lent
  module _ (d : ℕ) (u : Unread X d) (h : ¬ (m ≡ stack_limit)) (few : length bytes / frame_bytes frame_width ≡ 0) where
    in_bytes : X (frames_in frame_width bytes) ≡ record { answer = refused u.0; frames = frames_in frame_width bytes; depth = d }
    in_bytes = u.1 (frames_in frame_width bytes) (λ e. omega (arith, length_frames_in frame_width bytes))

    in_structs : X (lent_frames xs) ≡ record { answer = refused u.0; frames = lent_frames xs; depth = d }
    in_structs = u.1 (lent_frames xs) (λ e. h (sym len ∙ sym (frames_length xs) ∙ e))

    pub none_answer : (X (frames_in frame_width bytes)).answer ≡ (X (lent_frames xs)).answer
    none_answer = ap (λ (x : Reply A). x.answer) in_bytes ∙ sym (ap (λ (x : Reply A). x.answer) in_structs)

    pub none_replied : (r d' : ℕ) (gs : List pcrl.Frame) → Replied (X (frames_in frame_width bytes)) r gs d' → Replied (X (lent_frames xs)) r (lent_frames (over (taken m) ys xs)) d'
    none_replied r d' gs a =
        let same : over (taken m) ys xs ≡ xs = ap (λ (c : ℕ). over c ys xs) (taken_none m h) ∙ over_zero ys xs in
        record {
          answer = a.answer ∙ ap (λ (x : Result A). refusal x) none_answer;
          frames = ap lent_frames same ∙ sym (ap (λ (x : Reply A). x.frames) in_structs);
          depth = a.depth ∙ ap (λ (x : Reply A). x.depth) in_bytes ∙ sym (ap (λ (x : Reply A). x.depth) in_structs);
        }

  -- 64 frames are lent, and the bytes hold them
  pub all_replied : m ≡ stack_limit → length ys ≡ stack_limit → frames_in frame_width bytes ≡ lent_frames xs → (gs : List pcrl.Frame) → lent_frames ys ≡ gs → (r d' : ℕ)
      → Replied (X (frames_in frame_width bytes)) r gs d' → Replied (X (lent_frames xs)) r (lent_frames (over (taken m) ys xs)) d'
  all_replied h g e gs f r d' a =
      let now : over (taken m) ys xs ≡ ys = ap (λ (c : ℕ). over c ys xs) (taken_all m h) ∙ over_all stack_limit ys xs g (len ∙ h) in
      subst (λ (hs : List pcrl.Frame). Replied (X (lent_frames xs)) r hs d') (sym (ap lent_frames now ∙ f)) (subst (λ (fs : List pcrl.Frame). Replied (X fs) r gs d') e a)

-- All of 64 frames or none are lent, in bytes, and come back in others.
module _ {A : Type 0} (X : List pcrl.Frame → Reply A) (d : ℕ) (u : Unread X d) (xs ys ss : List LentFrame) (count : ℕ) (bytes new : List ℕ)
    (e : count ≡ taken (length xs)) (kept : over count xs ss ≡ ss) (s64 : length ss ≡ stack_limit) (size : length bytes ≡ stack_bytes) (held : frames_in frame_width bytes ≡ lent_frames ss) where
  abbrev lent : List ℕ
  lent = take (count * frame_bytes frame_width - 0) bytes

  all : length xs ≡ stack_limit → count ≡ stack_limit
  all h = e ∙ taken_all (length xs) h

  lent_all : length xs ≡ stack_limit → lent ≡ bytes
  lent_all h = let c = all h in take_all (count * frame_bytes frame_width - 0) bytes (omega arith)

  lent_none : ¬ (length xs ≡ stack_limit) → length lent / frame_bytes frame_width ≡ 0
  lent_none h = let c : count ≡ 0 = e ∙ taken_none (length xs) h in let l = length-take (count * frame_bytes frame_width - 0) bytes in omega arith

  lent_held : length xs ≡ stack_limit → frames_in frame_width lent ≡ lent_frames xs
  lent_held h = ap (frames_in frame_width) (lent_all h) ∙ held ∙ ap lent_frames (sym kept ∙ ap (λ (m : ℕ). over m xs ss) (all h) ∙ over_all stack_limit xs ss h s64)

  pub answer_same : (X (frames_in frame_width lent)).answer ≡ (X (lent_frames xs)).answer
  answer_same = elim (ℕ_discrete (length xs) stack_limit) [
    | yes h ↦ ap (λ (fs : List pcrl.Frame). (X fs).answer) (lent_held h)
    | no h ↦ none_answer X (length xs) xs ys refl lent d u h (lent_none h)
  ]

  pub replied_back : length new ≡ length lent → lent_frames ys ≡ frames_in frame_width (new ++ drop (count * frame_bytes frame_width - 0) bytes) → (r d' : ℕ)
      → Replied (X (frames_in frame_width lent)) r (frames_in frame_width new) d' → Replied (X (lent_frames xs)) r (lent_frames (over count ys xs)) d'
  replied_back len back r d' a = subst (λ (m : ℕ). Replied (X (lent_frames xs)) r (lent_frames (over m ys xs)) d') (sym e) (elim (ℕ_discrete (length xs) stack_limit) [
    | yes h ↦ all_back h
    | no h ↦ none_replied X (length xs) xs ys refl lent d u h (lent_none h) r d' (frames_in frame_width new) a
  ])
    where
      all_back : length xs ≡ stack_limit → Replied (X (lent_frames xs)) r (lent_frames (over (taken (length xs)) ys xs)) d'
      all_back h =
          let c = all h in
          let rest : new ++ drop (count * frame_bytes frame_width - 0) bytes ≡ new = ap (λ (l : List ℕ). new ++ l) (drop_of_length-le bytes {i = count * frame_bytes frame_width - 0} (omega arith)) ∙ append-nil new in
          let same : lent_frames ys ≡ frames_in frame_width new = back ∙ ap (frames_in frame_width) rest in
          let n64 : length new / frame_bytes frame_width ≡ stack_limit = let l = ap length (lent_all h) in omega arith in
          let y64 : length ys ≡ stack_limit = sym (frames_length ys) ∙ ap length same ∙ length_frames_in frame_width new ∙ n64 in
          all_replied X (length xs) xs ys refl lent h y64 (lent_held h) (frames_in frame_width new) same r d' a
