-- Questions in turn: what was answered so far, and what is still to be asked of the frames and depth that are left.
use mathlib.Core.Path.{◌≡◌, refl, sym, ◌∙◌, ap, ap₂, subst, subst₂}
use mathlib.Core.List.{List, [], ◌∷◌, ◌++◌, append_assoc, append-nil}
use Prim.Native.Nat.{ℕ, suc, ◌+◌, ◌*◌, ◌<◌, ◌≤◌}
use native.Mathlib.Omega.{arith}
use native.Mathlib.Numerals.{add-one}
use lib.ListN.{length, get_or, take, drop, drop_of_length-le}
use lib.Seq.{drop-cons}
use Rattle.pcrl.specs.Limits.{frame_width, stack_limit}
use Rattle.pcrl.specs.Reader.{all}
use Rattle.pcrl.specs.Result.{accepted}
use Rattle.pcrl.specs.Table.{Table}
use Rattle.pcrl.specs.Right.{RightTable}
use Rattle.pcrl.specs.Stack.{Frame, Stack, RightFrames, frames_of, stack_of}
use Rattle.pcrl.specs.Ask.{Answer, ask, ask_all}
use Rattle.theory.specs.Lending.{Holds, passes_15, holds_right, holds_stack}
use Rattle.theory.specs.Asked.{answer_is, still_holds}
use Rattle.theory.specs.StepRight.{step_right}
use Rattle.laws.specs.Lists.{length_snoc}
use Rattle.blocks.proofs.Fronts.{Front, front_more}
use Rattle.asking.specs.declared.Told.{Told}
use Rattle.asking.specs.Encoding.{answer_bytes, encode_answer, answers_after}
use Rattle.asking.specs.Replies.{answer_told, depth_after, AskIs, AllIs}
use Rattle.asking.proofs.EncodingLaws.{length_answer, all_last, length_all}

-- After i questions: the frames fs, of which d are used, pass 15; so many answers stand in the front of the bytes out; and the rest of the questions, put to these frames, completes them.
pub record Going (T : Table) (ks : List ℕ) (fs₀ : List Frame) (d₀ : ℕ) (out₀ : List ℕ) (i : ℕ) (fs : List Frame) (d : ℕ) (out : List ℕ) : Type 0 where
  pub done : List Answer
  pub count : length done ≡ i
  pub right : RightFrames frame_width stack_limit T fs d
  pub written : Front out₀ (all encode_answer done) out
  pub answers : (ask_all frame_width stack_limit T ks (stack_of fs₀ d₀)).0 ≡ done ++ (ask_all frame_width stack_limit T (drop i ks) (stack_of fs d)).0
  pub stack : (ask_all frame_width stack_limit T ks (stack_of fs₀ d₀)).1 ≡ (ask_all frame_width stack_limit T (drop i ks) (stack_of fs d)).1

module _ (T : Table) (ks : List ℕ) (fs₀ : List Frame) (d₀ : ℕ) (out₀ : List ℕ) where
  pub going_start : RightFrames frame_width stack_limit T fs₀ d₀ → Going T ks fs₀ d₀ out₀ 0 fs₀ d₀ out₀
  unfolding all
  going_start p = record { done = []; count = refl; right = p; written = refl; answers = refl; stack = refl }

  pub going_on : RightTable T → (i : ℕ) (fs : List Frame) (d : ℕ) (out : List ℕ) → Going T ks fs₀ d₀ out₀ i fs d out → i < length ks
      → (k : ℕ) (r : Told) (fs' : List Frame) (new : List ℕ) → k ≡ get_or ks i 0 → AskIs T fs d k r fs' → new ≡ encode_answer (answer_told T.sig r) → (e : ℕ) → e ≡ depth_after d r → (at wide : ℕ) → at ≡ i * answer_bytes → wide ≡ answer_bytes
      → Going T ks fs₀ d₀ out₀ (i + 1) fs' e (take at out ++ (new ++ drop wide (drop at out)))
  unfolding ask_all
  going_on right i fs d out g h k r fs' new is a encoded e left at wide here whole =
      let s = stack_of fs d in
      let next = ask frame_width stack_limit T k s in
      let holds = (passes_15 frame_width stack_limit T fs d).0 g.right in
      let after : Holds frame_width stack_limit T (frames_of frame_width stack_limit next.stack) (length next.stack) next.stack =
      still_holds frame_width stack_limit T (step_right T right frame_width) holds (answer_is frame_width stack_limit T k s) in
      let after' : Holds frame_width stack_limit T fs' e next.stack = subst₂ (λ (x : List Frame) (n : ℕ). Holds frame_width stack_limit T x n next.stack) (sym a.frames) (sym (left ∙ a.depth)) after in
      let there : stack_of fs' e ≡ next.stack = holds_stack frame_width stack_limit T after' in
      let cut : drop i ks ≡ k ∷ drop (i + 1) ks = drop-cons ks i 0 h ∙ ap₂ (λ (x n : ℕ). x ∷ drop n ks) (sym is) (sym (add-one i)) in
      let rest : ask_all frame_width stack_limit T (drop i ks) s ≡ ask_all frame_width stack_limit T (k ∷ drop (i + 1) ks) s = ap (λ (l : List ℕ). ask_all frame_width stack_limit T l s) cut in
      let more = ask_all frame_width stack_limit T (drop (i + 1) ks) next.stack in
      let newly : new ≡ encode_answer next.answer = encoded ∙ ap encode_answer a.answer in
      let n = g.count in
      let front : length (all encode_answer g.done) ≡ at = length_all g.done ∙ (let z : answer_bytes * length g.done ≡ at = omega arith in z) in
      record {
        done = g.done ++ (next.answer ∷ []);
        count = length_snoc g.done next.answer ∙ (let z : suc (length g.done) ≡ i + 1 = omega arith in z);
        right = holds_right frame_width stack_limit T after';
        written = subst (λ (p : List ℕ). Front out₀ p (take at out ++ (new ++ drop wide (drop at out)))) (ap (λ (l : List ℕ). all encode_answer g.done ++ l) newly ∙ sym (all_last g.done next.answer))
            (front_more out₀ (all encode_answer g.done) new out at wide g.written front (ap length newly ∙ length_answer next.answer ∙ sym whole));
        answers = g.answers ∙ ap (λ (x : List Answer × Stack). g.done ++ x.0) rest ∙ sym (append_assoc g.done (next.answer ∷ []) more.0)
            ∙ ap (λ (t : Stack). (g.done ++ (next.answer ∷ [])) ++ (ask_all frame_width stack_limit T (drop (i + 1) ks) t).0) (sym there);
        stack = g.stack ∙ ap (λ (x : List Answer × Stack). x.1) rest ∙ ap (λ (t : Stack). (ask_all frame_width stack_limit T (drop (i + 1) ks) t).1) (sym there);
      }

  pub going_end : (i : ℕ) (fs : List Frame) (d : ℕ) (out : List ℕ) → Going T ks fs₀ d₀ out₀ i fs d out → length ks ≤ i → AllIs T fs₀ d₀ ks out₀ out fs d
  unfolding ask_all answers_after
  going_end i fs d out g h =
      let holds = (passes_15 frame_width stack_limit T fs d).0 g.right in
      let nothing : drop i ks ≡ [] = drop_of_length-le ks {i = i} h in
      let end : (ask_all frame_width stack_limit T ks (stack_of fs₀ d₀)).1 ≡ stack_of fs d = g.stack ∙ ap (λ (l : List ℕ). (ask_all frame_width stack_limit T l (stack_of fs d)).1) nothing in
      let these : (ask_all frame_width stack_limit T ks (stack_of fs₀ d₀)).0 ≡ g.done = g.answers ∙ ap (λ (l : List ℕ). g.done ++ (ask_all frame_width stack_limit T l (stack_of fs d)).0) nothing ∙ append-nil g.done in
      record {
        answers = g.written ∙ ap (λ (n : ℕ). all encode_answer g.done ++ drop n out₀) (length_all g.done) ∙ ap (λ (l : List Answer). answers_after (accepted l) out₀) (sym these);
        frames = holds.frames ∙ ap (frames_of frame_width stack_limit) (sym end);
        depth = holds.depth ∙ ap length (sym end);
      }
