-- Stacks in lent frames: question 15 asks exactly that the frames hold a right stack, zeros past it; so a right stack that fits passes it.
use Rattle.std.specs.Prelude.{◌≡◌, refl, ◌↔◌, ℕ, ◌-◌, ◌≤◌}
use Rattle.std.proofs.Math.Path.{ap, ap₂, sym, subst}
use Rattle.std.proofs.Common.{◌∙◌, subst₂, arith, length-append, length-take, take-append-drop}
use mathlib.Core.List.{List, ◌++◌, reverse, reverse-reverse}
use Rattle.std.proofs.Math.ListN.{length, take, drop, replicate, length-reverse, length-drop}
use Rattle.std.proofs.lemmas.List.{length-replicate}
use Rattle.std.proofs.Math.Seq.{drop-append_seam, take-append_seam}
use Rattle.pcrl.specs.Tests.{Every}
use Rattle.pcrl.specs.Table.{Table}
use Rattle.pcrl.specs.Stack.{Frame, Stack, zero_frame, RightFrame, RightStack, IsZero, RightFrames, frames_of, stack_of}
use Rattle.laws.specs.Every.{every_reverse, every_replicate, replicate_of_every, every_weaken}

module _ (width limit : ℕ) where
  every_zero : (n : ℕ) → Every (IsZero width) (replicate n (zero_frame width))
  unfolding IsZero zero_frame
  every_zero n = every_replicate (IsZero width) n (zero_frame width) (refl, refl)

  zeros : (fs : List Frame) → Every (IsZero width) fs → fs ≡ replicate (length fs) (zero_frame width)
  unfolding IsZero zero_frame
  zeros fs h = replicate_of_every (zero_frame width) fs (every_weaken (IsZero width) _ (λ f z i. record { number = z.0 i; values = z.1 i }) fs h)

  pub length_frames : (s : Stack) → length s ≤ limit → length (frames_of width limit s) ≡ limit
  unfolding frames_of
  length_frames s h = simp (length-append, length-reverse, length-replicate) (omega arith)

  take_frames : (s : Stack) → take (length s) (frames_of width limit s) ≡ reverse s
  unfolding frames_of
  take_frames s = ap (λ (n : ℕ). take n (frames_of width limit s)) (sym (length-reverse s)) ∙ take-append_seam (reverse s) _

  drop_frames : (s : Stack) → drop (length s) (frames_of width limit s) ≡ replicate (limit - length s) (zero_frame width)
  unfolding frames_of
  drop_frames s = ap (λ (n : ℕ). drop n (frames_of width limit s)) (sym (length-reverse s)) ∙ drop-append_seam (reverse s) _

  -- A stack put in lent frames is found there again.
  pub stack_of_frames : (s : Stack) → stack_of (frames_of width limit s) (length s) ≡ s
  unfolding stack_of
  stack_of_frames s = ap reverse (take_frames s) ∙ reverse-reverse s

  -- The lent frames fs, of which d are used, hold the stack s, which is right and fits.
  pub record Holds (T : Table) (fs : List Frame) (d : ℕ) (s : Stack) : Type 0 where
    pub frames : fs ≡ frames_of width limit s
    pub depth : d ≡ length s
    pub fits : d ≤ limit
    pub right : RightStack width T s

  module _ (T : Table) where
    -- A right stack that fits passes question 15.
    pub frames_right : (s : Stack) → RightStack width T s → length s ≤ limit → RightFrames width limit T (frames_of width limit s) (length s)
    unfolding RightFrames RightStack
    frames_right s r h = (
      length_frames s h,
      (
        h,
        (
          subst (Every (RightFrame width T)) (sym (take_frames s)) (every_reverse (RightFrame width T) s r),
          subst (Every (IsZero width)) (sym (drop_frames s)) (every_zero (limit - length s)),
        ),
      ),
    )

    length_stack : (fs : List Frame) (d : ℕ) → d ≤ length fs → length (stack_of fs d) ≡ d
    unfolding stack_of
    length_stack fs d h = simp (length-reverse, length-take) (omega arith)

    right_frames_are : (fs : List Frame) (d : ℕ) → RightFrames width limit T fs d → fs ≡ frames_of width limit (stack_of fs d)
    unfolding RightFrames frames_of
    right_frames_are fs d h =
        let n : length (stack_of fs d) ≡ d = length_stack fs d (omega arith) in
        let m : length (drop d fs) ≡ limit - length (stack_of fs d) = length-drop d fs ∙ rw (n, h.0) in
        let t : take d fs ≡ reverse (stack_of fs d) = unfold stack_of in (sym (reverse-reverse (take d fs))) in
        sym (take-append-drop d fs)
        ∙ ap₂ (λ (xs ys : List Frame). xs ++ ys) t
        (zeros (drop d fs) h.1.1.1 ∙ ap (λ (k : ℕ). replicate k (zero_frame width)) m)

    right_holds : (fs : List Frame) (d : ℕ) → RightFrames width limit T fs d → Holds T fs d (stack_of fs d)
    unfolding RightFrames RightStack
    right_holds fs d h = record {
      frames = right_frames_are fs d h;
      depth = sym (length_stack fs d (omega arith));
      fits = h.1.0;
      right = unfold stack_of in (every_reverse (RightFrame width T) (take d fs) h.1.1.0);
    }

    module _ {fs : List Frame} {d : ℕ} {s : Stack} (h : Holds T fs d s) where
      pub holds_right : RightFrames width limit T fs d
      holds_right = subst₂ (RightFrames width limit T) (sym h.frames) (sym h.depth) (frames_right s h.right (let e : d ≡ length s = h.depth in omega (arith, h.fits)))

      pub holds_stack : stack_of fs d ≡ s
      holds_stack = ap₂ stack_of h.frames h.depth ∙ stack_of_frames s

    -- Frames pass question 15 exactly when they hold a right stack that fits: the one that they are read as.
    pub passes_15 : (fs : List Frame) (d : ℕ) → RightFrames width limit T fs d ↔ Holds T fs d (stack_of fs d)
    passes_15 fs d = (right_holds fs d, holds_right)
