-- The loop's invariant: so many frames are read.
use native.Mathlib.Omega.{arith}
use mathlib.Core.Path.{◌≡◌, refl, sym, ap, ◌∙◌}
use mathlib.Core.List.{List}
use lib.ListN.{length, set, length-replicate}
use Rattle.pcrl.specs.Limits.{frame_width, stack_limit}
use Rattle.pcrl.specs.Stack as pcrl
use Rattle.stacks.specs.Lent.{frames_in}
use Rattle.stacks.proofs.Views.{no_frame, length_frames_in, get_or_frames_in}
use Rattle.frames.specs.Lists as lists
use Rattle.frames.specs.Lists.{frame_of, lent_frames}
use Rattle.frames.proofs.Over.{frames_length, upto_step, upto_end}
use Rattle.frames.proofs.FrameLists.{frames_set}
use Rattle.frames.proofs.from_bytes.Goals as goal

pub loop-i-init : goal.loop-i-init
loop-i-init c = (omega arith, (ap length c.empty-t.ensures ∙ length-replicate stack_limit lists.no_frame, refl))

pub at-f-requires : goal.at-f-requires
at-f-requires c = omega (arith, c.requires, c.loop-i-test)

pub loop-i-preserved : goal.loop-i-preserved
loop-i-preserved c =
    let a = c.args in
    let i = c.loop-i.i in
    let hs = lent_frames c.empty-t.result.frames in (
      omega (arith, c.loop-i-test),
      (
        c.loop-i.invariant.1.0,
        frames_set c.loop-i.t.frames i c.at-f.result ∙ ap (λ (l : List pcrl.Frame). set l i (frame_of c.at-f.result)) c.loop-i.invariant.1.1
            ∙ upto_step (frames_in frame_width a.bytes.now) hs i _ no_frame (omega (arith, length_frames_in frame_width a.bytes.now, c.requires, c.loop-i-test)) (omega (arith, frames_length c.empty-t.result.frames, c.loop-i.invariant.1.0, c.loop-i-test))
            (c.at-f.ensures ∙ sym (get_or_frames_in frame_width a.bytes.now i no_frame (omega (arith, c.requires, c.loop-i-test)))),
      ),
    )

pub returns : goal.returns
returns c =
    let a = c.args in
    let e : c.loop-i.i ≡ stack_limit = omega arith in
    c.loop-i.invariant.1.1 ∙ upto_end (frames_in frame_width a.bytes.now) (lent_frames c.empty-t.result.frames) c.loop-i.i (omega (arith, length_frames_in frame_width a.bytes.now, c.requires)) (omega (arith, frames_length c.empty-t.result.frames, c.loop-i.invariant.1.0))
