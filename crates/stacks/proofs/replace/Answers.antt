-- The loop's invariant: so many calls are put in, from the top down.
use native.Mathlib.Omega.{arith}
use mathlib.Core.Path.{◌≡◌, refl, sym, ap, ap₂, ◌∙◌}
use mathlib.Core.List.{List}
use Prim.Native.Nat.{ℕ, ◌+◌, ◌-◌}
use lib.ListN.{take, set}
use Rattle.pcrl.specs.Limits.{frame_width, stack_limit}
use Rattle.pcrl.specs.Stack.{Frame, zero_frame}
use Rattle.pcrl.specs.Lists.{tabulate}
use Rattle.stacks.specs.Lent.{frame_at, frames_at, frames_in}
use Rattle.stacks.proofs.Filling.{filling, filling_step, length_frames_at, get_or_frames_at, cleared, replaced, low_length}
use Rattle.stacks.proofs.replace.Goals as goal

pub put-requires : goal.put-requires
put-requires c = omega (arith, c.requires)

pub loop-i-init : goal.loop-i-init
loop-i-init c = (omega arith, (refl, λ low l e. e))

pub put-requires-in-loop-i : goal.put-requires-in-loop-i
put-requires-in-loop-i c = omega (arith, c.requires, c.put.auto.frames)

pub loop-i-preserved : goal.loop-i-preserved
loop-i-preserved c =
    let a = c.args in
    let i = c.loop-i.i in
    let made = frames_at frame_width a.n a.others.now in
    let at = a.depth - 1 + (a.n - 1 - i) in (
      omega arith,
      (
        c.put-in-loop-i.auto.frames ∙ c.loop-i.invariant.1.0,
        λ low l e.
            c.put-in-loop-i.ensures ∙ ap₂ (λ (fs : List Frame) (f : Frame). set fs at f) (c.loop-i.invariant.1.1 low l e) (sym (get_or_frames_at frame_width a.n a.others.now i (omega arith)))
            ∙ filling_step frame_width stack_limit low made a.n i at (omega arith) (omega (arith, length_frames_at frame_width a.n a.others.now)) (omega arith),
      ),
    )

pub shape_of-frames : goal.shape_of-frames
shape_of-frames c = c.loop-i.invariant.1.0 ∙ c.put.auto.frames

pub returns : goal.returns
unfolding frame_at zero_frame tabulate
returns c = λ z.
    let a = c.args in
    let s = a.frames.now in
    let t = c.put.new.frames in
    let o = a.others.now in
    let end : c.loop-i.i ≡ a.n = omega arith in
    c.loop-i.invariant.1.1 (take (a.depth - 1) (frames_in frame_width s)) (low_length frame_width stack_limit s t a.depth a.n o (omega (arith, c.requires)) (omega (arith, c.requires)) (omega (arith, c.requires)))
    (cleared frame_width stack_limit s t a.depth a.n o (omega (arith, c.requires)) (omega (arith, c.requires)) (omega (arith, c.requires)) _ refl (omega (arith, c.requires)) c.put.ensures z)
    ∙ ap (λ (x : ℕ). filling frame_width stack_limit (take (a.depth - 1) (frames_in frame_width s)) a.n x (frames_at frame_width a.n o)) end
    ∙ replaced frame_width stack_limit s t a.depth a.n o (omega (arith, c.requires)) (omega (arith, c.requires)) (omega (arith, c.requires))
