-- Each frame is written behind those before it.
use native.Mathlib.Omega.{arith}
use Prim.Native.Nat.{◌+◌, ◌-◌, ◌*◌}
use mathlib.Core.Path.{refl, ◌∙◌}
use Rattle.blocks.proofs.Fronts.{length_part}
use Rattle.firing.proofs.Framing.{framed_none, framed_more, framed_all, kept_part}
use Rattle.firing.proofs.frames_at.Goals as goal

pub loop-i-init : goal.loop-i-init
loop-i-init c = let a = c.args in (omega arith, (omega (arith, c.requires.1.0), (refl, framed_none a.s.now a.funcs.now a.params.now a.e.now a.at a.n a.made.now)))

pub overflow_mul-b : goal.overflow_mul-b
overflow_mul-b c = omega (arith, c.requires.1.1.0)

pub overflow_add-t : goal.overflow_add-t
overflow_add-t c = omega (arith, c.requires.1.1.0)

pub slice_bounds-frame_at-end : goal.slice_bounds-frame_at-end
slice_bounds-frame_at-end c = omega (arith, c.requires.1.1, c.loop-i.invariant.1.1.0)

pub frame_at-a-requires : goal.frame_at-a-requires
frame_at-a-requires c = (c.requires.0, (omega (arith, c.loop-i.invariant.1.0, c.requires.1.1.0), length_part (c.loop-i.i * 5) (c.loop-i.i * 5 + 5 - c.loop-i.i * 5) c.loop-i.made (omega (arith, c.requires.1.1, c.loop-i.invariant.1.1.0)) ∙ omega arith))

pub loop-i-preserved : goal.loop-i-preserved
loop-i-preserved c = let a = c.args in let l = c.loop-i in
    let new = c.frame_at-a.new.out in (
      omega arith,
      (
        omega (arith, c.frame_at-a.ensures.0, l.invariant.1.0, c.requires.0),
        (
          kept_part l.made new (l.i * 5) (l.i * 5 + 5 - l.i * 5) (omega (arith, c.requires.1.1, l.invariant.1.1.0)) c.frame_at-a.ensures.1.0 ∙ l.invariant.1.1.0,
          framed_more a.s.now a.funcs.now a.params.now a.e.now a.at a.n a.made.now l.made new l.a l.i c.frame_at-a.result (l.i * 5) (l.i * 5 + 5 - l.i * 5) c.loop-i-test.true refl (omega arith) c.frame_at-a.ensures.1.1 l.invariant.1.1.1,
        ),
      ),
    )

pub shape_of-made : goal.shape_of-made
shape_of-made c = c.loop-i.invariant.1.1.0

pub returns : goal.returns
returns c = let a = c.args in let l = c.loop-i in (l.invariant.1.1.0, framed_all a.s.now a.funcs.now a.params.now a.e.now a.at a.n a.made.now l.made l.a l.i (omega arith) l.invariant.1.1.1)
