-- Calls of a stepping program, one after another on lent frames. Where each call keeps its promise, the calls answer and leave what `ask-all` says.
use Rattle.std.specs.Prelude.{◌≡◌, refl, ℕ, length}
use Rattle.std.proofs.Common.{ap, ap₂, sym, ◌∙◌, subst₂}
use mathlib.Core.List.{List, [], ◌∷◌}
use Rattle.pcrl.specs.Result.{accepted}
use Rattle.pcrl.specs.Label.{Label}
use Rattle.pcrl.specs.Table.{Table}
use Rattle.pcrl.specs.Stack.{Frame, Stack, RightStack, RightFrames, frames_of, stack_of}
use Rattle.pcrl.specs.Steps.{StackStep}
use Rattle.pcrl.specs.Ask.{Answer, Asked, ask, ask_all}
use Rattle.pcrl.specs.Answers.{table_checked, Reply, asked_in}
use Rattle.theory.specs.Lending.{Holds, passes_15, holds_right, holds_stack}
use Rattle.theory.specs.Asked.{answer_is, still_holds}
use Rattle.theory.specs.InTurn.{asked_in_turn, as_answer, as_answer_alone, asked_is}

module _ (width limit : ℕ) (T : Table) where
  -- What is promised of a call on the frames fs, of which d are used: asked for step k, it answers a and leaves the frames fs', of which d' are used.
  pub record CallIs (fs : List Frame) (d k : ℕ) (a : Answer) (fs' : List Frame) (d' : ℕ) : Type 0 where
    pub answers : a ≡ (ask width limit T k (stack_of fs d)).answer
    pub leaves : fs' ≡ frames_of width limit (ask width limit T k (stack_of fs d)).stack
    pub depth : d' ≡ length (ask width limit T k (stack_of fs d)).stack

  -- Calls in turn, each on the frames and depth that the last one left. Of a call on frames that do not pass 15 nothing is asked.
  pub data Calls : List Frame → ℕ → List ℕ → List Answer → List Frame → ℕ → Type 0 where
    no_call : {fs : List Frame} {d : ℕ} → Calls fs d [] [] fs d
    call_then : {fs fs' fs'' : List Frame} {d d' d'' k : ℕ} {ks : List ℕ} {a : Answer} {more : List Answer}
        → (RightFrames width limit T fs d → CallIs fs d k a fs' d') → Calls fs' d' ks more fs'' d'' → Calls fs d (k ∷ ks) (a ∷ more) fs'' d''

  module _ (keeps : (s : Stack) (l : Label) (t : Stack) → RightStack width T s → StackStep width T s l t → RightStack width T t) where
    -- a call leaves frames that hold the stack which its answer leaves
    call_holds : {fs fs' : List Frame} {d d' k : ℕ} {a : Answer} {s : Stack} → Holds width limit T fs d s → CallIs fs d k a fs' d'
        → (a ≡ (ask width limit T k s).answer) × Holds width limit T fs' d' (ask width limit T k s).stack
    call_holds {fs} {fs'} {d} {d'} {k} {a} {s} h c =
        let e : ask width limit T k (stack_of fs d) ≡ ask width limit T k s = ap (ask width limit T k) (holds_stack width limit T h) in
        let t : Stack = (ask width limit T k s).stack in (
          c.answers ∙ ap (λ (x : Asked). x.answer) e,
          subst₂ (λ (gs : List Frame) (n : ℕ). Holds width limit T gs n t)
              (sym (c.leaves ∙ ap (λ (x : Asked). frames_of width limit x.stack) e))
              (sym (c.depth ∙ ap (λ (x : Asked). length x.stack) e))
              (still_holds width limit T keeps h (answer_is width limit T k s)),
        )

    -- Calls answer and leave what `ask-all` says.
    pub calls_hold : {fs fs' : List Frame} {d d' : ℕ} {ks : List ℕ} {answers : List Answer} {s : Stack} → Holds width limit T fs d s → Calls fs d ks answers fs' d'
        → (answers ≡ (ask_all width limit T ks s).0) × Holds width limit T fs' d' (ask_all width limit T ks s).1
    unfolding ask_all
    calls_hold h no_call = (refl, h)
    calls_hold {s = s} h (call_then {k = k} {ks} c more) =
        let (e, h') = call_holds h (c (holds_right width limit T h)) in
        let (g, h'') = calls_hold h' more in
        (ap₂ (λ (a : Answer) (l : List Answer). a ∷ l) e g, h'')

  -- A call that replies as `asked` says, on a file of the table T, keeps the promise.
  pub call_of_asked : (file : List ℕ) → table_checked file ≡ accepted T → (fs : List Frame) (d k : ℕ) (r : Reply Answer) → r ≡ asked_in width limit file fs d k
      → RightFrames width limit T fs d → CallIs fs d k (as_answer r.answer) r.frames r.depth
  call_of_asked file checked fs d k r e p =
      let g = e ∙ asked_is width limit file T checked ((passes_15 width limit T fs d).0 p) k in
      record {
        answers = ap (λ (x : Reply Answer). as_answer x.answer) g ∙ as_answer_alone _;
        leaves = ap (λ (x : Reply Answer). x.frames) g;
        depth = ap (λ (x : Reply Answer). x.depth) g;
      }

  -- So `asked`, put in turn, is such calls.
  pub calls_in_turn : (file : List ℕ) → table_checked file ≡ accepted T → (ks : List ℕ) (fs : List Frame) (d : ℕ)
      → let r = asked_in_turn width limit file fs d ks in Calls fs d ks r.answers r.frames r.depth
  unfolding asked_in_turn
  calls_in_turn file checked [] fs d = no_call
  calls_in_turn file checked (k ∷ ks) fs d =
      let r = asked_in width limit file fs d k in
      call_then (call_of_asked file checked fs d k r refl) (calls_in_turn file checked ks r.frames r.depth)
