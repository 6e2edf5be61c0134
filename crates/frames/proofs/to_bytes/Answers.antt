-- The loop's invariant: so many frames are put in.
use native.Mathlib.Omega.{arith}
use mathlib.Core.Path.{◌≡◌, refl, sym, ap, ◌∙◌}
use mathlib.Core.List.{List}
use lib.ListN.{length, get_or, set}
use Rattle.pcrl.specs.Limits.{frame_width, stack_limit}
use Rattle.pcrl.specs.Stack as pcrl
use Rattle.stacks.specs.Lent.{frames_in}
use Rattle.stacks.proofs.Views.{no_frame, length_frames_in}
use Rattle.frames.specs.Lists.{blank, frame_of, lent_frames}
use Rattle.frames.proofs.Over.{frames_length, upto_step, upto_end}
use Rattle.frames.proofs.FrameLists.{frames_at_place}
use Rattle.frames.proofs.to_bytes.Goals as goal

pub loop-i-init : goal.loop-i-init
loop-i-init c = (omega arith, (refl, refl))

pub put-requires : goal.put-requires
put-requires c = omega (arith, c.requires, c.loop-i.invariant.1.0, c.loop-i-test)

pub loop-i-preserved : goal.loop-i-preserved
loop-i-preserved c =
    let a = c.args in
    let i = c.loop-i.i in
    let s64 : length a.s.frames ≡ stack_limit = omega arith in
    let gs = lent_frames a.s.frames in
    let hs = frames_in frame_width a.bytes.now in (
      omega arith,
      (
        c.put.auto.bytes ∙ c.loop-i.invariant.1.0,
        c.put.ensures ∙ ap (λ (l : List pcrl.Frame). set l i (frame_of (get_or a.s.frames i blank))) c.loop-i.invariant.1.1
            ∙ upto_step gs hs i _ no_frame (omega (arith, frames_length a.s.frames, c.loop-i-test)) (omega (arith, length_frames_in frame_width a.bytes.now, c.requires, c.loop-i-test)) (sym (frames_at_place a.s.frames i no_frame (omega (arith, c.loop-i-test)))),
      ),
    )

pub shape_of-bytes : goal.shape_of-bytes
shape_of-bytes c = c.loop-i.invariant.1.0

pub returns : goal.returns
returns c =
    let a = c.args in
    let e : c.loop-i.i ≡ stack_limit = omega arith in
    let s64 : length a.s.frames ≡ stack_limit = omega arith in
    c.loop-i.invariant.1.1 ∙ upto_end (lent_frames a.s.frames) (frames_in frame_width a.bytes.now) c.loop-i.i (omega (arith, frames_length a.s.frames)) (omega (arith, length_frames_in frame_width a.bytes.now, c.requires))
