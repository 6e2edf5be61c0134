-- The lines of a walk: those printed, and those from the frames and depth that are left.
use mathlib.Core.Path.{◌≡◌, refl, sym, ◌∙◌, ap, ap₂, subst, subst₂}
use mathlib.Core.List.{List, [], ◌∷◌, ◌++◌, append_assoc}
use Prim.Native.Nat.{ℕ, suc, ◌+◌, ◌-◌, ◌<◌, ◌≤◌}
use native.Mathlib.Omega.{arith}
use native.Mathlib.Numerals.{add-one}
use lib.ListN.{length}
use Rattle.pcrl.specs.Limits.{frame_width, stack_limit}
use Rattle.pcrl.specs.Text.{bytes}
use Rattle.pcrl.specs.Label.{Label}
use Rattle.pcrl.specs.Table.{Table}
use Rattle.pcrl.specs.Right.{RightTable}
use Rattle.pcrl.specs.Stack.{Frame, Stack, RightFrames, frames_of, stack_of}
use Rattle.pcrl.specs.Ask.{Answer, Asked, ask}
use Rattle.pcrl.specs.Answers.{start_stack}
use Rattle.pcrl.specs.Walk.{walk_steps, walk_lines, answer_lines, step_line, closing, text_line}
use Rattle.theory.specs.Lending.{Holds, passes_15, holds_right, holds_stack, frames_right, stack_of_frames}
use Rattle.theory.specs.Asked.{answer_is, still_holds}
use Rattle.theory.specs.StepRight.{step_right, start_stack_right}
use Rattle.asking.specs.declared.Step.{Step}
use Rattle.asking.specs.declared.Told.TheVariants.{Ended, Nothing, Stepped, TooDeep}
use Rattle.asking.specs.Replies.{answer_told, label_told, AskIs}
use Rattle.texts.specs.Wrote.{Wrote}
use Rattle.texts.proofs.Writing.{wrote_nothing, wrote_more, wrote_as}

-- what is printed for an answer
module _ (i : ℕ) (next : Stack → List ℕ) (a : Asked) where
  for_ended : a.answer ≡ Answer.ended → answer_lines i next a ≡ text_line (bytes "ended")
  unfolding answer_lines
  for_ended e = subst (λ (x : Answer). answer_lines i next (record { answer = x; stack = a.stack }) ≡ text_line (bytes "ended")) (sym e) refl

  for_nothing : a.answer ≡ Answer.nothing → answer_lines i next a ≡ text_line (bytes "stuck")
  unfolding answer_lines
  for_nothing e = subst (λ (x : Answer). answer_lines i next (record { answer = x; stack = a.stack }) ≡ text_line (bytes "stuck")) (sym e) refl

  for_refused : (n : ℕ) → a.answer ≡ Answer.refused n → answer_lines i next a ≡ text_line (bytes "stuck")
  unfolding answer_lines
  for_refused n e = subst (λ (x : Answer). answer_lines i next (record { answer = x; stack = a.stack }) ≡ text_line (bytes "stuck")) (sym e) refl

  for_step : (l : Label) (n : ℕ) → a.answer ≡ Answer.stepped l n → answer_lines i next a ≡ step_line i l n ++ next a.stack
  unfolding answer_lines
  for_step l n e = subst (λ (x : Answer). answer_lines i next (record { answer = x; stack = a.stack }) ≡ step_line i l n ++ next a.stack) (sym e) refl

closing_ended : (s : Stack) → length s ≡ 0 → closing s ≡ text_line (bytes "ended")
unfolding closing
closing_ended [] h = refl
closing_ended (f ∷ s) h = absurd (omega arith)

closing_more : (s : Stack) → 0 < length s → closing s ≡ text_line (bytes "more")
unfolding closing
closing_more [] h = absurd (omega arith)
closing_more (f ∷ s) h = refl

-- The lines written so far, and the frames and depth from which the rest goes on.
pub record Walking (T : Table) (out₀ : List ℕ) (fs : List Frame) (d taken : ℕ) (out : List ℕ) (at : ℕ) : Type 0 where
  pub right : RightFrames frame_width stack_limit T fs d
  pub done : List ℕ
  pub lines : walk_lines T walk_steps 1 (start_stack frame_width T) ≡ done ++ walk_lines T (walk_steps - taken) (taken + 1) (stack_of fs d)
  pub wrote : Wrote out₀ 0 done out at

module _ (T : Table) (right : RightTable T) (out₀ : List ℕ) where
  pub walking_start : (fs : List Frame) → fs ≡ frames_of frame_width stack_limit (start_stack frame_width T) → Walking T out₀ fs 1 0 out₀ 0
  unfolding start_stack
  walking_start fs e =
      let s = start_stack frame_width T in
      let one : RightFrames frame_width stack_limit T (frames_of frame_width stack_limit s) 1 = frames_right frame_width stack_limit T s (start_stack_right T right frame_width) (omega arith) in
      record {
        right = subst (λ (x : List Frame). RightFrames frame_width stack_limit T x 1) (sym e) one;
        done = [];
        lines = ap (walk_lines T walk_steps 1) (sym (ap (λ (x : List Frame). stack_of x 1) e ∙ stack_of_frames frame_width stack_limit s));
        wrote = wrote_nothing out₀ 0 (omega arith);
      }

  module _ (fs : List Frame) (d taken : ℕ) (out : List ℕ) (at : ℕ) (g : Walking T out₀ fs d taken out at) where
    abbrev s : Stack
    s = stack_of fs d

    abbrev answer : Asked
    answer = ask frame_width stack_limit T 0 s

    abbrev next : Stack → List ℕ
    next = walk_lines T (walk_steps - (taken + 1)) (suc (taken + 1))

    holds : Holds frame_width stack_limit T fs d s
    holds = (passes_15 frame_width stack_limit T fs d).0 g.right

    -- the rest is one piece more
    closes : (piece out' : List ℕ) (r : ℕ) → walk_lines T (walk_steps - taken) (taken + 1) s ≡ piece → Wrote out at piece out' r → Wrote out₀ 0 (walk_lines T walk_steps 1 (start_stack frame_width T)) out' r
    closes piece out' r e w = wrote_as out₀ 0 (g.done ++ piece) _ out' r (sym (g.lines ∙ ap (λ (l : List ℕ). g.done ++ l) e)) (wrote_more out₀ 0 g.done out at piece out' r (omega arith) g.wrote w)

    turn : taken < walk_steps → walk_lines T (walk_steps - taken) (taken + 1) s ≡ answer_lines (taken + 1) next answer
    unfolding walk_lines
    turn h = let e : walk_steps - taken ≡ suc (walk_steps - (taken + 1)) = omega arith in ap (λ (n : ℕ). walk_lines T n (taken + 1) s) e

    module _ (h : taken < walk_steps) (fs' : List Frame) where
      pub ends_refused : AskIs T fs d 0 TooDeep fs' → (out' : List ℕ) (p : ℕ) → Wrote out at (text_line (bytes "stuck")) out' p → Wrote out₀ 0 (walk_lines T walk_steps 1 (start_stack frame_width T)) out' p
      unfolding answer_told
      ends_refused a out' p w = closes _ out' p (turn h ∙ for_refused (taken + 1) next answer 16 (sym a.answer)) w

      pub ends_ended : AskIs T fs d 0 Ended fs' → (out' : List ℕ) (p : ℕ) → Wrote out at (text_line (bytes "ended")) out' p → Wrote out₀ 0 (walk_lines T walk_steps 1 (start_stack frame_width T)) out' p
      unfolding answer_told
      ends_ended a out' p w = closes _ out' p (turn h ∙ for_ended (taken + 1) next answer (sym a.answer)) w

      pub ends_stuck : AskIs T fs d 0 Nothing fs' → (out' : List ℕ) (p : ℕ) → Wrote out at (text_line (bytes "stuck")) out' p → Wrote out₀ 0 (walk_lines T walk_steps 1 (start_stack frame_width T)) out' p
      unfolding answer_told
      ends_stuck a out' p w = closes _ out' p (turn h ∙ for_nothing (taken + 1) next answer (sym a.answer)) w

      pub walking_on : (r : Step) → AskIs T fs d 0 (Stepped r) fs' → (out' : List ℕ) (p : ℕ) → Wrote out at (step_line (taken + 1) (label_told T.sig r) r.depth) out' p → Walking T out₀ fs' r.depth (taken + 1) out' p
      unfolding answer_told
      walking_on r a out' p w =
          let l = label_told T.sig r in
          let piece = step_line (taken + 1) l r.depth in
          let after : Holds frame_width stack_limit T (frames_of frame_width stack_limit answer.stack) (length answer.stack) answer.stack =
          still_holds frame_width stack_limit T (step_right T right frame_width) holds (answer_is frame_width stack_limit T 0 s) in
          let after' : Holds frame_width stack_limit T fs' r.depth answer.stack = subst₂ (λ (x : List Frame) (n : ℕ). Holds frame_width stack_limit T x n answer.stack) (sym a.frames) (sym a.depth) after in
          let there : stack_of fs' r.depth ≡ answer.stack = holds_stack frame_width stack_limit T after' in
          let now : walk_lines T (walk_steps - taken) (taken + 1) s ≡ piece ++ next answer.stack = turn h ∙ for_step (taken + 1) next answer l r.depth (sym a.answer) in
          record {
            right = holds_right frame_width stack_limit T after';
            done = g.done ++ piece;
            lines = g.lines ∙ ap (λ (x : List ℕ). g.done ++ x) now ∙ sym (append_assoc g.done piece (next answer.stack))
                ∙ ap₂ (λ (i : ℕ) (t : Stack). (g.done ++ piece) ++ walk_lines T (walk_steps - (taken + 1)) i t) (sym (add-one (taken + 1))) (sym there);
            wrote = wrote_more out₀ 0 g.done out at piece out' p (omega arith) g.wrote w;
          }

    stops : walk_steps ≤ taken → walk_lines T (walk_steps - taken) (taken + 1) s ≡ closing s
    unfolding walk_lines
    stops h = let e : walk_steps - taken ≡ 0 = omega arith in ap (λ (n : ℕ). walk_lines T n (taken + 1) s) e

    pub closes_ended : walk_steps ≤ taken → d ≡ 0 → (out' : List ℕ) (p : ℕ) → Wrote out at (text_line (bytes "ended")) out' p → Wrote out₀ 0 (walk_lines T walk_steps 1 (start_stack frame_width T)) out' p
    closes_ended h z out' p w = closes _ out' p (stops h ∙ closing_ended s (sym holds.depth ∙ z)) w

    pub closes_more : walk_steps ≤ taken → 0 < d → (out' : List ℕ) (p : ℕ) → Wrote out at (text_line (bytes "more")) out' p → Wrote out₀ 0 (walk_lines T walk_steps 1 (start_stack frame_width T)) out' p
    closes_more h z out' p w = let e = holds.depth in closes _ out' p (stops h ∙ closing_more s (omega arith)) w
