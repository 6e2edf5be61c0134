-- The four answers to "step k?" as document 01 says them, and that `ask` gives an answer exactly where document 01 does.
use Rattle.std.proofs.Math.Path.{◌≡◌, refl, ap}
use Rattle.std.proofs.Common.{◌∙◌, subst}
use mathlib.Core.List.{List, [], ◌∷◌}
use Rattle.std.specs.Prelude.{◌↔◌, ℕ, ◌<◌, ◌≤◌, length}
use Rattle.std.proofs.Math.Option.{Option, none, some}
use native.Mathlib.Omega.{arith}
use Rattle.std.proofs.Math.Decide.{dec_le}
use Rattle.std.proofs.Math.ListN.{get_elem?}
use Rattle.pcrl.specs.Label.{Label}
use Rattle.pcrl.specs.Table.{Table}
use Rattle.pcrl.specs.Stack.{Frame, Stack, RightStack, frames_of}
use Rattle.pcrl.specs.Steps.{StackStep, steps}
use Rattle.pcrl.specs.Ask.{Answer, ended, nothing, stepped, refused, Asked, step_to, chosen, ask}
use Rattle.laws.specs.Tests.{where_yes, where_no}
use Rattle.laws.specs.Lists.{past_none, get_elem?_past}
use Rattle.theory.specs.Listing.{listed_steps}
use Rattle.theory.specs.Lending.{Holds}

module _ (width limit : ℕ) (T : Table) where
  -- "Asked for step k (from 0)" of the stack s: the answer, and the stack that it leaves.
  pub data AnswerIs (k : ℕ) (s : Stack) : Answer → Stack → Type 0 where
    -- "ended (depth 0)"
    at_end : length s ≡ 0 → AnswerIs k s ended s
    -- "none (k too large)"
    too_large : 0 < length s → length (steps width T s) ≤ k → AnswerIs k s nothing s
    -- "16. at most 64 frames after it? No: 16." for "a step that exists"
    too_deep : {l : Label} {t : Stack} → get_elem? (steps width T s) k ≡ some (l, t) → limit < length t → AnswerIs k s (refused 16) s
    -- "or the label and the new depth, with the new stack"
    goes_to : {l : Label} {t : Stack} → get_elem? (steps width T s) k ≡ some (l, t) → length t ≤ limit → AnswerIs k s (stepped l (length t)) t

  step_to_fits : (s : Stack) (l : Label) (t : Stack) → length t ≤ limit → step_to width limit s (l, t) ≡ record { answer = stepped l (length t); stack = t }
  unfolding step_to
  step_to_fits s l t h = where_yes {A = Asked} (dec_le (length t) limit) h (record { answer = stepped l (length t); stack = t }) (record { answer = refused 16; stack = s })

  step_to_deep : (s : Stack) (l : Label) (t : Stack) → limit < length t → step_to width limit s (l, t) ≡ record { answer = refused 16; stack = s }
  unfolding step_to
  step_to_deep s l t h = where_no {A = Asked} (dec_le (length t) limit) (omega arith) (record { answer = stepped l (length t); stack = t }) (record { answer = refused 16; stack = s })

  -- what `ask` gives is what document 01 says
  module _ (k : ℕ) where
    answer_of_step : (s : Stack) (l : Label) (t : Stack) → get_elem? (steps width T s) k ≡ some (l, t) → Dec (length t ≤ limit)
        → AnswerIs k s (step_to width limit s (l, t)).answer (step_to width limit s (l, t)).stack
    answer_of_step s l t e (yes h) = rw (step_to_fits s l t h) (goes_to e h)
    answer_of_step s l t e (no h) = let d : limit < length t = omega arith in rw (step_to_deep s l t d) (too_deep e d)

    answer_by_place : (s : Stack) → 0 < length s → (o : Option (Label × Stack)) → get_elem? (steps width T s) k ≡ o
        → AnswerIs k s (chosen width limit s o).answer (chosen width limit s o).stack
    unfolding chosen
    answer_by_place s n none e = too_large n (past_none (steps width T s) k e)
    answer_by_place s n (some x) e = answer_of_step s x.0 x.1 e (dec_le (length x.1) limit)

    pub answer_is : (s : Stack) → AnswerIs k s (ask width limit T k s).answer (ask width limit T k s).stack
    unfolding ask
    answer_is [] = at_end refl
    answer_is (f ∷ s) = answer_by_place (f ∷ s) (omega arith) (get_elem? (steps width T (f ∷ s)) k) refl

    no_step_at_end : {x : Label × Stack} → get_elem? (steps width T []) k ≡ some x → ⊥
    unfolding steps
    no_step_at_end e = let z : ◌≡◌ {A = ℕ} 0 1 = cc in omega arith

    only_answer : (s : Stack) {a : Answer} {t : Stack} → AnswerIs k s a t → ask width limit T k s ≡ record { answer = a; stack = t }
    unfolding ask chosen
    only_answer [] (at_end h) = refl
    only_answer [] (too_large n h) = absurd (omega arith)
    only_answer [] (too_deep e h) = absurd (no_step_at_end e)
    only_answer [] (goes_to e h) = absurd (no_step_at_end e)
    only_answer (f ∷ s) (at_end h) = absurd (omega arith)
    only_answer (f ∷ s) (too_large n h) = ap (chosen width limit (f ∷ s)) (get_elem?_past (steps width T (f ∷ s)) k h)
    only_answer (f ∷ s) (too_deep {l} {t} e h) = ap (chosen width limit (f ∷ s)) e ∙ step_to_deep (f ∷ s) l t h
    only_answer (f ∷ s) (goes_to {l} {t} e h) = ap (chosen width limit (f ∷ s)) e ∙ step_to_fits (f ∷ s) l t h

    -- `ask` gives an answer and leaves a stack exactly where document 01 says so.
    pub answer_exactly : (s : Stack) (a : Answer) (t : Stack) → (ask width limit T k s ≡ record { answer = a; stack = t }) ↔ AnswerIs k s a t
    answer_exactly s a t = (λ e. subst (λ (x : Asked). AnswerIs k s x.answer x.stack) e (answer_is s), only_answer s)

  pub answer_fits : {k : ℕ} {s : Stack} {a : Answer} {t : Stack} → AnswerIs k s a t → length s ≤ limit → length t ≤ limit
  answer_fits (at_end h) d = d
  answer_fits (too_large n h) d = d
  answer_fits (too_deep e h) d = d
  answer_fits (goes_to e h) d = h

  -- where steps keep stacks right, so do answers
  module _ (keeps : (s : Stack) (l : Label) (t : Stack) → RightStack width T s → StackStep width T s l t → RightStack width T t) where
    pub answer_right : {k : ℕ} {s : Stack} {a : Answer} {t : Stack} → AnswerIs k s a t → RightStack width T s → RightStack width T t
    answer_right (at_end h) r = r
    answer_right (too_large n h) r = r
    answer_right (too_deep e h) r = r
    answer_right {k} {s} (goes_to {l} {t} e h) r = keeps s l t r (listed_steps width T s k l t e)

    -- So frames that pass 15 do so again after an answer: they hold the stack that it leaves.
    pub still_holds : {fs : List Frame} {d k : ℕ} {s : Stack} {a : Answer} {t : Stack} → Holds width limit T fs d s → AnswerIs k s a t
        → Holds width limit T (frames_of width limit t) (length t) t
    still_holds {d = d} {s = s} h a = record {
      frames = refl;
      depth = refl;
      fits = answer_fits a (let e : d ≡ length s = h.depth in omega (arith, h.fits));
      right = answer_right a h.right;
    }
